pub mod Gives
pub mod Wanted
pub mod Mentions
pub mod Entries
