pub mod Sets
pub mod Nodes
pub mod Leaves
pub mod ListedNodes
