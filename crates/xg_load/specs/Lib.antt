pub mod Accepted
pub mod Endings
pub mod Loads
