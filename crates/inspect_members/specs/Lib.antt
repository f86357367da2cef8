pub mod Rules
pub mod Line
