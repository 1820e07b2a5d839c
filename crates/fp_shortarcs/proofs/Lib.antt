pub mod RelaxedClasses
mod ListedSoFar
mod WrittenWalks
pub mod NewPlaces
pub mod TimesOfClasses
pub mod SamePoints
pub mod UniqueShorts
mod Examples
