pub mod Limits
pub mod ThroughCosts
pub mod BarTests
pub mod BarRuns
pub mod LeafValues
