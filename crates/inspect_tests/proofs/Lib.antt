pub mod Looked
pub mod Tested
pub mod Parts
pub mod Verdicts
pub mod Steps
pub mod Judged
