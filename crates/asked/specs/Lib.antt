pub mod Rows
pub mod Lines
pub mod Steps
pub mod Met
