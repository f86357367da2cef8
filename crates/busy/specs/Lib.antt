pub mod Window
pub mod Passing
