pub mod Stretch
pub mod Entries
