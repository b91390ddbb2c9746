pub mod Touched
pub mod Threads
pub mod Filling
