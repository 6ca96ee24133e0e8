pub mod Limits
pub mod Outcomes
pub mod Fits
pub mod Writes
pub mod Founds
pub mod Serves
