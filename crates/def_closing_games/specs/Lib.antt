pub mod Range
pub mod Promise
pub mod Laws
pub mod Rows
