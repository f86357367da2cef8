pub mod Cut
pub mod Rules
pub mod Taken
pub mod Items
