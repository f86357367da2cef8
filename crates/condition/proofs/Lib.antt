pub mod Kept
pub mod Runs
