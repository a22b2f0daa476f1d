pub mod Frames
pub mod Texts
pub mod Chains
