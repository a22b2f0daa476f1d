pub mod Told
pub mod Allowed
pub mod Calls
