pub mod KeptLegs
pub mod Beginnings
pub mod Records
pub mod Codes
pub mod Quotes
pub mod KeptWindows
pub mod Starts
