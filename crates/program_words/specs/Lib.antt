pub mod Words
pub mod Rows
pub mod Commands
pub mod Parser
pub mod Views
pub mod Laws
