pub mod DistinctInsertions
pub mod ChainEnds
pub mod BestCandidates
pub mod SmallCosts
pub mod BestTrucks
