pub mod Blocks
pub mod Lowest
