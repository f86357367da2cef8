pub mod Pieces
pub mod Four
pub mod Steps
