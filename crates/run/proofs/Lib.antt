pub mod Chain
pub mod Script
pub mod Front
pub mod Claims
