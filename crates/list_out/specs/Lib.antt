pub mod Write
pub mod Parts
