pub mod Putting
pub mod Theorems
