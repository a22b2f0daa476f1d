pub mod Running
pub mod Bus
pub mod Calls
pub mod Facts
