pub mod Counts
pub mod Load
