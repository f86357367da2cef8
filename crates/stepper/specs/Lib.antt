pub mod Ranks
pub mod Lines
pub mod Follow
