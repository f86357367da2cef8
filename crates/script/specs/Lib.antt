pub mod Script
pub mod Held
pub mod Judged
pub mod Claims
