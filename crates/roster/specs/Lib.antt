pub mod Keys
pub mod Rows
pub mod Ranked
pub mod Lined
