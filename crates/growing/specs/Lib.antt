pub mod Levels
pub mod Stages
pub mod Rooted
