pub mod Holdings
pub mod Running
