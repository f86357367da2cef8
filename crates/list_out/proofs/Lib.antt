pub mod Runs
pub mod Parts
pub mod Ahead
pub mod Rules
