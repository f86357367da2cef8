pub mod Named
pub mod Answers
pub mod Claims
pub mod Box
pub mod Written
pub mod Parts
pub mod Exact
