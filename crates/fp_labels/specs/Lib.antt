pub mod Graphs
pub mod Walks
pub mod TaggedWalks
pub mod Layers
pub mod Labels
pub mod ThroughWalks
pub mod Rows
pub mod Searches
