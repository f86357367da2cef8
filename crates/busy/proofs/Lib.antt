pub mod Over
pub mod Window
pub mod Arrivals
pub mod Service
pub mod Ends
pub mod Passing
