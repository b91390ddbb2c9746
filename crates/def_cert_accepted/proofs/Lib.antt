pub mod OfRun
pub mod Accepted
pub mod Fits
pub mod Bounds
pub mod Outcomes
