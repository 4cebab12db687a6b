pub mod Tiles
pub mod Stages
