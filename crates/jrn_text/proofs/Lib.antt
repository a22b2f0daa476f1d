pub mod Cut
pub mod Numbers
pub mod Masks
pub mod Meaning
pub mod Lines
pub mod Unique
