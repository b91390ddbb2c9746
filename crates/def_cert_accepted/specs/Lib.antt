pub mod OfOutcome
pub mod Bounds
pub mod Writable
pub mod Laws
