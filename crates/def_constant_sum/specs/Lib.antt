pub mod Expected
pub mod Bounds
pub mod Laws
pub mod Rows
