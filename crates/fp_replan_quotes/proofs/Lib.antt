pub mod LastLists
pub mod LastPlans
pub mod LastQuotes
pub mod LastValidity
pub mod Fronts
pub mod NamedShipments
