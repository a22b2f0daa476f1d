pub mod Grammar
pub mod Words
pub mod Indexed
pub mod Floors
pub mod Digits
