pub mod Fits
pub mod Pass
mod WrongPositions
