pub mod Outcomes
pub mod Theorems
pub mod Cases
pub mod Small
