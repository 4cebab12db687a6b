pub mod Conditions
pub mod Ascending
