pub mod Sides
pub mod Trees
pub mod Nodes
pub mod Layout
pub mod Ways
