mod AnswersBack
mod LastElements
mod LineRanges
mod LinesBack
mod LinesOn
mod ListsBack
pub mod NamesBack
pub mod NumbersBack
mod PlainRows
mod PriceRanges
mod PricesBack
pub mod RangedFields
pub mod Ranged
mod ReadEnds
mod SegmentsBack
mod TableCounts
mod TablesBack
mod Examples
pub mod WrittenBack
