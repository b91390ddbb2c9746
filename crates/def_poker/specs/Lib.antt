pub mod Cards
pub mod Faultless
