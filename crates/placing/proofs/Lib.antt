pub mod Beside
pub mod Stage
pub mod Seeking
