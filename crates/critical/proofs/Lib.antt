pub mod Blocker
pub mod Counts
pub mod Legal
pub mod Blocked
pub mod Clear
pub mod Starts
pub mod Exact
pub mod Late
