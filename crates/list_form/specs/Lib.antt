pub mod Items
pub mod Offences
pub mod Runs
pub mod ListText
