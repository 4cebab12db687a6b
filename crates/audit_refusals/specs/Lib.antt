pub mod Numbers
pub mod Workspace
