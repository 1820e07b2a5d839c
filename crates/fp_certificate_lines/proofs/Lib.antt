pub mod Named
pub mod SpanRanges
mod RowTexts
pub mod NoMoments
pub mod Examples
pub mod LineLengths
mod PriceLengths
pub mod TextLengths
