mod Examples
pub mod PointsKept
pub mod Stays
pub mod AddedPoints
pub mod BranchLimits
pub mod Enough
pub mod SamePoints
pub mod HistoryPoints
