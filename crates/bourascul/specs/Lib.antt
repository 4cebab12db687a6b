pub mod Calls
pub mod Recorded
