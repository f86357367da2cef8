pub mod Ranks
pub mod Lines
pub mod Above
pub mod Marks
pub mod Tick
pub mod Ready
