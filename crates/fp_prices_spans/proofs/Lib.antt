pub mod PaidSums
pub mod PassingUsers
pub mod MoneySums
pub mod WeightSets
pub mod CountedParts
pub mod SpanMoments
pub mod FirstPoints
pub mod SameFirst
pub mod RunPlaces
pub mod GroupItems
pub mod ChargeParts
pub mod GroupUsers
pub mod DepartureTrucks
pub mod ClassTrucks
pub mod SpanPays
pub mod ClassSums
pub mod SpanOrders
pub mod NoMoney
pub mod EndMoney
pub mod SpanSweeps
pub mod LeafHeads
pub mod LeafWays
pub mod TaggedEdges
pub mod SpanBounds
pub mod PlaceSets
pub mod SoundSpans
pub mod OneSpanValue
pub mod SpanlessValues
pub mod Between
pub mod RangeClasses
pub mod MarkedBits
pub mod SpannedRows
pub mod WeightTotals
pub mod PricesSoFar
pub mod AllowedInNetwork
pub mod SpanCosts
pub mod SpanCharges
pub mod LeafBases
pub mod SpanValues
pub mod ThroughBounds
pub mod ObeyedBars
pub mod SpanBoundsFound
pub mod SameSpanValues
pub mod PaidSpans
pub mod PaidLeaves
pub mod SpanAppends
mod EqualWeights
mod Examples
mod DetourExamples
mod HeadExamples
mod GroupExamples
