pub mod Places
pub mod Refining
