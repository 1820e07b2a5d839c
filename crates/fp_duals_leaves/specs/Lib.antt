pub mod PriceLines
pub mod SoundSpans
pub mod SpanPrices
pub mod Prices
pub mod Pricing
