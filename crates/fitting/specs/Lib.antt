pub mod Kinds
pub mod Steps
pub mod Claims
pub mod Standing
