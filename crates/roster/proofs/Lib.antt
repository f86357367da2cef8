pub mod Line
pub mod Rowing
pub mod Runs
pub mod Ranks
pub mod Tied
pub mod Lining
