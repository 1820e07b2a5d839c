pub mod LastShipments
pub mod NamedQuotes
pub mod Starts
