pub mod Table
pub mod Leaves
pub mod Threads
pub mod Kept
pub mod Parts
