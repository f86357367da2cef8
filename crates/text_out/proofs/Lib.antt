pub mod Lines
pub mod Rules
