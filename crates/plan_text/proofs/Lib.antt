pub mod Words
pub mod Counts
pub mod Going
pub mod Below
pub mod Last
pub mod Grammar
