pub mod Readable
pub mod Sums
pub mod Late
pub mod Numbers
pub mod Harts
