pub mod Cases
pub mod Lines
pub mod Bounds
pub mod Rejections
pub mod LeafWays
pub mod NarrowedWays
