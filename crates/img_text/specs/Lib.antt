pub mod Image
pub mod Directives
pub mod Reading
pub mod Grammar
pub mod Blocks
pub mod Reader
pub mod Writing
pub mod Boot
