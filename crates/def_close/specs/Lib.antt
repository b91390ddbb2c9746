pub mod Plans
pub mod Narrow
pub mod Laws
