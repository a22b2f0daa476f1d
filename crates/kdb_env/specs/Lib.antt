pub mod Variables
pub mod Table
