pub mod BestLeaf
pub mod Branches
pub mod Cover
mod Examples
pub mod JoinedNodes
pub mod LeafChange
pub mod LeafDivision
pub mod NodeMaps
pub mod StateChanges
pub mod SplitBudget
pub mod Steps
pub mod TreeNodes
pub mod TwoChanges
pub mod Walks
