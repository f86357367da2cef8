pub mod Back
pub mod Forth
