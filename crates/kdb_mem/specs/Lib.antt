pub mod Range
pub mod Shown
pub mod Changed
