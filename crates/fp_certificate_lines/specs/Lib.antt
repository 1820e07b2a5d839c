pub mod Moments
pub mod Statements
pub mod Rows
pub mod Ranges
pub mod Lengths
pub mod Valuations
