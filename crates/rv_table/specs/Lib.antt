pub mod Groups
pub mod Mnemonics
pub mod Rows
