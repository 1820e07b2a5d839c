pub mod Plans
pub mod Points
pub mod Units
pub mod Prices
pub mod Leaves
pub mod Accepted
pub mod Claims
pub mod LineCounts
