pub mod Configuration
pub mod Phases
pub mod NextPhase
pub mod Tick
pub mod Run
pub mod Looks
