pub mod KeptGroups
pub mod Candidates
