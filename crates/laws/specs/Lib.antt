pub mod Choice
pub mod Joined
pub mod Sums
pub mod Every
