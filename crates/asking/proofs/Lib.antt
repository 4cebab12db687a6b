pub mod Parting
pub mod Saying
pub mod Waiting
pub mod Worths
