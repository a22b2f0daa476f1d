pub mod Runs
pub mod Stages
pub mod Causes
pub mod Laws
