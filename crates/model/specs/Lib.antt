pub mod Kinds
pub mod Limits
pub mod Layouts
pub mod Processors
pub mod Answer
pub mod Rules
