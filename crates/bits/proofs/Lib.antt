pub mod Field
pub mod Records
pub mod Written
