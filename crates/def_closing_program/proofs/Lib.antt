pub mod Accepted
pub mod Printed
pub mod Kept
