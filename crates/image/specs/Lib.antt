pub mod Image
pub mod Calls
pub mod Sound
pub mod Below
pub mod Changed
