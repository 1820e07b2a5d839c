pub mod Sets
pub mod Grains
pub mod Charges
pub mod Loads
