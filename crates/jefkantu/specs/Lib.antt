pub mod Word
pub mod Surface
pub mod Builds
pub mod Runs
pub mod Texts
pub mod Lists
pub mod Late
pub mod Claims
