pub mod Table
pub mod Help
pub mod Words
pub mod Diagnostics
pub mod Refused
