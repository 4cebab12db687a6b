pub mod Picks
pub mod Gathered
