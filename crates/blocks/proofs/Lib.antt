pub mod Checks
pub mod Places
pub mod InBlocks
pub mod Wrong
