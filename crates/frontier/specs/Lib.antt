pub mod Workspace
pub mod Waiting
