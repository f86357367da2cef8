pub mod Priority
pub mod Releases
pub mod Verdict
pub mod Test
pub mod Over
pub mod Meaning
