pub mod Ticks
pub mod Reading
pub mod Grammar
pub mod Left
