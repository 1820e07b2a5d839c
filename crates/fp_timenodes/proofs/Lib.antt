pub mod Floors
pub mod Nexts
pub mod StampPlaces
pub mod StampSearch
pub mod OneMoreStamp
pub mod Rounds
pub mod PointLimit
pub mod TimelinePoints
pub mod StartPoints
pub mod NewPoint
mod Examples
