pub mod Action
pub mod Record
pub mod Entry
pub mod Seen
