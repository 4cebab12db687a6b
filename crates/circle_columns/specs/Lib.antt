pub mod Circles
pub mod Faults
