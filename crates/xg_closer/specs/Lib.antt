pub mod Closing
pub mod Laws
pub mod Playing
pub mod Regrets
pub mod Rows
