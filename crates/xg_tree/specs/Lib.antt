pub mod Kept
pub mod Sizes
pub mod Built
pub mod Visits
pub mod Linked
pub mod Stopped
