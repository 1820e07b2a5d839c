pub mod PriceLines
pub mod PriceTables
pub mod Starts
pub mod Candidates
pub mod Improvements
pub mod Choices
