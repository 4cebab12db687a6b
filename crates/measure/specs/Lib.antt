pub mod Distance
pub mod Table
pub mod Space
pub mod Turns
