pub mod Pattern
pub mod Late
pub mod Claims
