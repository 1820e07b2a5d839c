pub mod Elements
pub mod Membership
pub mod Distinct
pub mod Order
pub mod Ascending
pub mod Numbered
pub mod Below
pub mod Vectors
