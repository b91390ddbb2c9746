pub mod Gaps
pub mod Spoken
pub mod Statuses
pub mod Found
pub mod Closings
