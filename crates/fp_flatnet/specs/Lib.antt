pub mod ArcGraphs
pub mod Distances
pub mod Windows
pub mod Tables
pub mod Belonging
pub mod Initial
pub mod Verdicts
pub mod Directs
