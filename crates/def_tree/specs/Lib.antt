pub mod Opponent
pub mod Tree
pub mod Rules
pub mod Events
pub mod Code
pub mod Links
pub mod Outcomes
