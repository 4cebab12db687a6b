pub mod Below
pub mod Nodes
pub mod Ways
