pub mod Context
pub mod RegisterName
pub mod Reservation
