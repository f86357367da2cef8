pub mod Bytes
pub mod Rules
