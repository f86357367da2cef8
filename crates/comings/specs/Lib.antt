pub mod Comings
pub mod Listed
