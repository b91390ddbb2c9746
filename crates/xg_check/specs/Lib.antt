pub mod Views
pub mod Answers
pub mod Parts
pub mod ThreadSums
