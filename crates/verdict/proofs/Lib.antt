pub mod InTurn
pub mod Full
pub mod Told
