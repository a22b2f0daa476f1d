pub mod Progress
pub mod Program
pub mod Plan
