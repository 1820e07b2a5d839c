pub mod Settings
pub mod Commands
pub mod Options
pub mod Places
pub mod Words
pub mod TimeLimits
