pub mod Gives
pub mod Runs
pub mod Points
pub mod Late
