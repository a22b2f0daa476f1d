pub mod Cuts
pub mod Entries
pub mod Journal
pub mod Loose
pub mod Laws
