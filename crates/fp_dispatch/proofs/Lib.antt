mod VectorItems
mod TableEntries
mod WaitingLegs
mod RoomLeft
mod RisingMoments
mod Companions
mod NextLegs
mod RaisedGroups
mod GroupTables
mod FixedRoutes
mod TimedLegs
mod FittingTables
mod Examples
pub mod LeastTimes
pub mod TimesOfPlans
