pub mod Bytes
pub mod Parts
pub mod Numbers
pub mod Digits
pub mod Times
pub mod Lines
pub mod Text
pub mod Written
