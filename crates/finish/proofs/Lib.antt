pub mod Grid
pub mod Rest
pub mod Ends
pub mod Finish
pub mod Apart
