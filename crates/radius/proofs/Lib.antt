pub mod How
pub mod Answered
pub mod Promises
pub mod Cases
