pub mod Legal
pub mod Tells
pub mod Awake
