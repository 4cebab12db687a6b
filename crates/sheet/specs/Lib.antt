pub mod Tidy
pub mod Stops
