pub mod Words
pub mod Chain
pub mod Longest
