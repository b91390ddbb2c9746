pub mod Solved
pub mod ExitStatusLaws
pub mod WordsMeanTheirCommand
pub mod SettingsWithinLimits
pub mod Checking
pub mod MadeEnds
pub mod BatchEntries
