pub mod Access
pub mod Parts
pub mod Pages
pub mod Laws
