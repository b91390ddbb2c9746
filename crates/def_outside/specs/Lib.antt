pub mod Cause
pub mod Sinks
pub mod Calls
