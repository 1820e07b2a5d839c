pub mod Numerals
pub mod NameForm
pub mod NameNumbers
pub mod NamedParts
pub mod MappedLists
pub mod FaultTables
pub mod ArcEnds
mod DistinctParts
