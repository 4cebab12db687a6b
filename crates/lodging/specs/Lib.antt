pub mod Sorts
pub mod Standing
pub mod Marks
