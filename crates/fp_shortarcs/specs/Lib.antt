pub mod TooShort
pub mod Listing
