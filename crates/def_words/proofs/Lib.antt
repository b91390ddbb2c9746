pub mod Sums
pub mod Brought
pub mod Moves
pub mod Closing
pub mod Runs
pub mod Held
pub mod CoreRuns
