pub mod Smallest
pub mod Jump
pub mod First
