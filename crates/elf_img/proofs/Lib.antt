pub mod Loads
pub mod Orders
pub mod Prefixes
pub mod Causes
pub mod Lines
pub mod HexDigits
pub mod ReadBack
