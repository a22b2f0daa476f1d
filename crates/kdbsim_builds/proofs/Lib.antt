pub mod Storing
pub mod Telling
