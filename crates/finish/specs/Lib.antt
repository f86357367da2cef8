pub mod Finish
pub mod Claims
