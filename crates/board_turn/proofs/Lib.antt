pub mod Lists
pub mod Shows
pub mod Rules
pub mod Turns
pub mod Seating
pub mod Readies
pub mod StepTicks
