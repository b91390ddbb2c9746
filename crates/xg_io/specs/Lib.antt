pub mod Cause
pub mod Waiting
pub mod Calls
