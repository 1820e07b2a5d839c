pub mod Growth
pub mod Fits
pub mod Indexes
pub mod NumbersAfter
pub mod Ranges
pub mod FirstEnds
pub mod RingEnds
pub mod OrdinalNames
pub mod DrawnArcs
pub mod SoundArcs
pub mod DrawnShipments
pub mod GeneratorLimits
mod Examples
