pub mod InPlace
pub mod Names
mod Numbers
