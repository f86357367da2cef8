pub mod Numbers
pub mod Fits
pub mod Counted
pub mod Onward
pub mod Written
