pub mod MemoryChange
pub mod Registers
pub mod SetVariable
pub mod SessionExit
