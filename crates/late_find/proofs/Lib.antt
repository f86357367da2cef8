pub mod Above
pub mod Below
pub mod Higher
pub mod Jobs
pub mod Asked
pub mod Blocker
pub mod Named
pub mod Times
