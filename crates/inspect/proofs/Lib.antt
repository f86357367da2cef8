pub mod Chain
pub mod Turn
pub mod Claims
pub mod Answers
pub mod Handed
