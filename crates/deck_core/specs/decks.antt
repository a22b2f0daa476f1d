pub mod Seat
pub mod Seats
