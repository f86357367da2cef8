pub mod Put
pub mod Accepts
pub mod Standing
pub mod Turning
pub mod Claims
