pub mod Apart
mod Changed
pub mod Gathered
pub mod Keeps
pub mod Limits
pub mod Meant
pub mod RefusedLines
pub mod Runs
pub mod Steps
pub mod Walk
