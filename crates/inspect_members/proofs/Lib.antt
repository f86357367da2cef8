pub mod Stretches
pub mod Rules
