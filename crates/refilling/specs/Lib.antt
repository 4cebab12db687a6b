pub mod Joining
pub mod Rooted
