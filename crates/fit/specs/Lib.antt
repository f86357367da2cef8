pub mod Recorded
pub mod Taking
pub mod Claims
