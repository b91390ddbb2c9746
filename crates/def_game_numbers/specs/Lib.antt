pub mod Numbers
pub mod Weighed
pub mod Faultless
pub mod WholeSums
pub mod Laws
pub mod Rows
