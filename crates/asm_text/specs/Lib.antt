pub mod Kinds
pub mod Labels
pub mod Instructions
pub mod Reading
pub mod Grammar
