pub mod Heads
pub mod Testing
pub mod Trying
