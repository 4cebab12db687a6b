pub mod Sound
pub mod Opened
