pub mod AllowedWalks
