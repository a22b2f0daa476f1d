pub mod Counts
pub mod Falls
pub mod Rooms
pub mod Starts
