pub mod Plan
pub mod Claims
