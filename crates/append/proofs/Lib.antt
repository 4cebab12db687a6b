pub mod Growing
pub mod Outcomes
pub mod Theorems
