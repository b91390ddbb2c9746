pub mod Boards
pub mod Holdings
pub mod Closing
pub mod Visits
pub mod Running
