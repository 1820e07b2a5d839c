pub mod Times
pub mod Answers
pub mod Rising
pub mod Tasks
