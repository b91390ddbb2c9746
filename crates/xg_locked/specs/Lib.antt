pub mod Rights
pub mod Locked
