pub mod Runs
pub mod Farthest
pub mod Wrong
pub mod Pairing
pub mod Searches
