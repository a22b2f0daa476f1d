pub mod Apart
pub mod Found
pub mod Groups
pub mod Words
pub mod Mnemonics
