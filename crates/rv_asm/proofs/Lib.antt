pub mod Digits
pub mod Inverse
pub mod Names
pub mod Operands
pub mod Rest
pub mod Words
