pub mod Sample
pub mod Points
pub mod Late
