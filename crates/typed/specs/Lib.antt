pub mod Kinds
pub mod Taken
