pub mod FirstOf
pub mod Counts
pub mod Slots
pub mod Stores
