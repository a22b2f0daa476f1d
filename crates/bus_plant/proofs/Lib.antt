pub mod Bytes
pub mod Execution
pub mod Lookups
pub mod Raw
pub mod Slots
pub mod Stay
pub mod WithWords
pub mod Paging
