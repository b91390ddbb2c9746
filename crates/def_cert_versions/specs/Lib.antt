pub mod Verdict
pub mod Laws
pub mod PlayerTwo
pub mod Upgrade
pub mod Runs
pub mod Rows
