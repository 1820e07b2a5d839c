pub mod Relaxed
pub mod Terminals
pub mod Groups
pub mod Grouping
