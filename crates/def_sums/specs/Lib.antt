pub mod Sum
pub mod Floor
pub mod Laws
pub mod Limits
