pub mod Stops
pub mod Classes
pub mod Ascending
pub mod Networks
pub mod Vectors
pub mod Whole
pub mod Changes
pub mod Properties
