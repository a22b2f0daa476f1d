pub mod Frame
pub mod Leads
pub mod Local
pub mod Rights
