pub mod Service
pub mod Interrupt
