pub mod Meant
pub mod Parts
pub mod Rest
pub mod Spelling
