pub mod Pairs
pub mod Allowed
