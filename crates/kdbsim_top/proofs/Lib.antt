pub mod Failing
pub mod Exclusion
pub mod Journals
pub mod Paces
pub mod Publishing
pub mod RunSteps
