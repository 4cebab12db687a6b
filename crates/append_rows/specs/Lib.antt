pub mod Calls
pub mod Turns
pub mod Putting
