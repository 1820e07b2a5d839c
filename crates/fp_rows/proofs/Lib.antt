pub mod WordPairs
pub mod Blocks
pub mod AnyWord
pub mod WordLanes
pub mod OneBit
pub mod BitsIn
pub mod RangeMasks
pub mod FirstInRange
pub mod BitChanges
pub mod BitCounts
pub mod RowCalls
pub mod FirstTrue
pub mod LaneCounts
mod Examples
