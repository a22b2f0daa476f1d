pub mod Shown
pub mod Rule
pub mod Plays
pub mod Ready
pub mod Steps
