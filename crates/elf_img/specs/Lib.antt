pub mod Bytes
pub mod Causes
pub mod Header
pub mod Segments
pub mod Sections
pub mod MapText
pub mod Symbols
pub mod Reading
