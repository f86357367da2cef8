pub mod Count
pub mod Keys
pub mod Records
pub mod Script
pub mod Comings
pub mod Alike
