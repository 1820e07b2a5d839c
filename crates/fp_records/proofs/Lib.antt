pub mod LineTexts
mod FieldFacts
mod PartFacts
mod PlainFields
mod ReaderFacts
pub mod RoundTrip
mod RowFacts
mod Examples
