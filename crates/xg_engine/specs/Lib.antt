pub mod Engines
pub mod Evaluations
pub mod Left
pub mod Players
pub mod Runs
pub mod Sources
pub mod State
pub mod Turns
