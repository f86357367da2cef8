pub mod Ahead
pub mod Course
pub mod Tables
