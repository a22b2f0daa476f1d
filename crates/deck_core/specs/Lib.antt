pub mod plain
pub mod contract
pub mod ticks
pub mod Invariant
pub mod laws
pub mod decks
