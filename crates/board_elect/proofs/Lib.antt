pub mod Elects
pub mod Rights
pub mod Standings
