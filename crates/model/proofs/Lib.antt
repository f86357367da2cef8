pub mod Output
pub mod Rules
pub mod Causes
pub mod Wrote
pub mod Ranges
pub mod Contained
