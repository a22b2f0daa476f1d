pub mod Record
pub mod Replay
pub mod Lockstep
