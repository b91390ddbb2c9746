pub mod MayOpen
pub mod Openings
