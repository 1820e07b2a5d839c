mod Examples
pub mod GiftCounts
pub mod GiftRuns
pub mod GiftSums
pub mod GiftBounds
pub mod BarredPlans
pub mod RuleEnds
pub mod GivenSums
pub mod TruckSums
pub mod OneGiftValue
pub mod SameGiftValues
pub mod GiftAppends
pub mod MomentLeaves
pub mod MomentBounds
