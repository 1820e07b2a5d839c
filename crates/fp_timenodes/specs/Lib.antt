pub mod Floor
pub mod Points
pub mod Stamps
pub mod Timelines
