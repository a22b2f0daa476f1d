pub mod State
pub mod Scope
pub mod Arguments
pub mod MemoryDisplay
pub mod Processors
pub mod Breakpoints
pub mod Variables
