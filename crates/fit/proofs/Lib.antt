pub mod Turn
pub mod Loop
pub mod Writing
pub mod Built
pub mod Fields
