pub mod Pieces
pub mod Worth
pub mod Words
