pub mod Lookups
pub mod Limits
pub mod Reading
pub mod Grammar
pub mod Index
pub mod Texts
