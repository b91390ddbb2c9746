pub mod Paths
pub mod Recall
pub mod Sequences
pub mod Coming
pub mod Rows
