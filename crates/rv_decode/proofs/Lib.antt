pub mod Masks
pub mod Signed
pub mod Words
pub mod Reading
