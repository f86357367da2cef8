pub mod Once
pub mod Rules
pub mod Read
pub mod Refused
pub mod Write
pub mod Back
pub mod Cases
