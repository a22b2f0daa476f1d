pub mod Filter
pub mod Lines
pub mod Ends
