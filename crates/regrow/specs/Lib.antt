pub mod Pieces
pub mod Stages
pub mod Calls
