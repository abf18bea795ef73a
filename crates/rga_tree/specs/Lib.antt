pub mod Children
pub mod Nodes
pub mod Tree
pub mod Preceding
