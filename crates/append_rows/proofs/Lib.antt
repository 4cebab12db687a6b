pub mod Turning
pub mod First
pub mod Outcomes
pub mod Theorems
