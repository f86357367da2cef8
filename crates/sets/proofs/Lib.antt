pub mod Processors
pub mod Shifted
pub mod Sizes
pub mod Chosen
pub mod Lows
pub mod Claims
