pub mod VersionedVerdict
pub mod PlayerTwo
pub mod Upgrades
pub mod Runs
