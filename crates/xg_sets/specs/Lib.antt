pub mod Movers
pub mod NextNumber
pub mod Table
pub mod OfPlayer
pub mod Fault
pub mod Entered
pub mod Walked
