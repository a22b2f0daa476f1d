pub mod Meaning
pub mod Inputs
