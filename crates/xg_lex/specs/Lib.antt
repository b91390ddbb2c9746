pub mod Standing
pub mod Viewed
