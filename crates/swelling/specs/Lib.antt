pub mod Rows
pub mod Swell
pub mod Pieces
pub mod Cases
