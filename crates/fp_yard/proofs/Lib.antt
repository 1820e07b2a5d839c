pub mod Witnesses
pub mod Histories
pub mod Places
pub mod Departures
pub mod Progress
pub mod LineNumbers
pub mod FreightLists
pub mod FreightOf
pub mod Missing
pub mod PlanSchedules
pub mod Runs
pub mod AllowedEvents
pub mod EventLists
pub mod Changes
pub mod WholeRuns
mod Examples
