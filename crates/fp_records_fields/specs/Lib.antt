pub mod Fields
pub mod Names
pub mod Findings
pub mod Faults
pub mod Indexes
pub mod NamedParts
