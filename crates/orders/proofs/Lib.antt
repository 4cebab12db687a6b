pub mod Alike
pub mod Striking
pub mod Outcomes
pub mod Calls
pub mod Cases
