pub mod Read
pub mod Taken
