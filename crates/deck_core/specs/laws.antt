pub mod Keeps
pub mod Facts
pub mod Ranges
pub mod Runs
