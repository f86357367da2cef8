pub mod Lines
pub mod Gathering
pub mod Passing
pub mod Turning
pub mod Heads
pub mod Done
pub mod Prepared
