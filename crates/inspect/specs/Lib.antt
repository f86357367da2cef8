pub mod Rules
pub mod Claims
