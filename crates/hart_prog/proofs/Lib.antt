pub mod Seats
pub mod Ticks
pub mod Plans
