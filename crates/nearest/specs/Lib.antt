pub mod Calls
pub mod Given
pub mod Ranked
pub mod Cases
