pub mod Wiping
pub mod Faults
pub mod Contract
pub mod Theorems
