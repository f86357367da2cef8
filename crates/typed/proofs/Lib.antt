pub mod Found
pub mod ByKind
pub mod Digits
pub mod Decimals
pub mod Fields
pub mod Shapes
pub mod Told
pub mod Whole
