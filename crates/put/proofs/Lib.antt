pub mod Counted
pub mod Put
