pub mod Copies
pub mod Offered
pub mod Narrowing
