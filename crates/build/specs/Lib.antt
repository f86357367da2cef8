pub mod Build
pub mod Taken
