pub mod Indexed
pub mod Outcomes
pub mod Theorems
