pub mod Seated
pub mod Inner
pub mod Origin
pub mod Core
