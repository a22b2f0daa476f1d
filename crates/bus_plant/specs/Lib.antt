pub mod Laws
pub mod Planted
pub mod Saved
