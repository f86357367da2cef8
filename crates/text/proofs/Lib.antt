pub mod Feeds
pub mod Lines
pub mod Rules
