pub mod Again
pub mod Described
pub mod Items
pub mod Plain
pub mod Taken
pub mod Writes
