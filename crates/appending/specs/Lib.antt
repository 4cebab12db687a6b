pub mod Append
pub mod Groups
pub mod Cases
