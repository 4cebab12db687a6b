pub mod Once
pub mod Calls
pub mod Cases
