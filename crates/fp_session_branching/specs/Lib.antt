pub mod Candidates
pub mod Best
pub mod Trucks
pub mod Ways
