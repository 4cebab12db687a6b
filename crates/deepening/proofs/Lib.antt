pub mod Sounding
pub mod Standing
pub mod Tiling
pub mod Halfway
pub mod Levelling
pub mod Deepening
