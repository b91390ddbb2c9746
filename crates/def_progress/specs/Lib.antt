pub mod Decimals
pub mod Progress
pub mod Rows
