pub mod Places
pub mod HeadLists
pub mod NewPoints
pub mod EqualNetworks
pub mod ClassNumbers
pub mod FourProperties
pub mod PointLists
pub mod VectorLists
pub mod ShortCopies
pub mod WholeNetworks
pub mod PointCounts
pub mod ClassCosts
mod Examples
pub mod NetworkRounds
