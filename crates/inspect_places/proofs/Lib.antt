pub mod Flags
pub mod Tell
