pub mod Mark
pub mod Line
