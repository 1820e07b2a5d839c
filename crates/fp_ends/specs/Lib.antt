pub mod Causes
pub mod Deadlines
pub mod Memory
pub mod Moves
pub mod Standard
