pub mod Answers
pub mod Giving
