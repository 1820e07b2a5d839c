pub mod RowWalks
pub mod AllowedWalks
