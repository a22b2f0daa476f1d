pub mod Operands
pub mod Control
pub mod Faults
pub mod Execution
pub mod Laws
