pub mod Stored
pub mod Builds
pub mod Laws
