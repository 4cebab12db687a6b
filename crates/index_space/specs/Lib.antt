pub mod Items
pub mod Fits
pub mod Run
