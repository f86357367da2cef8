pub mod Step
pub mod Pattern
pub mod Box
pub mod Claims
