pub mod Contract
pub mod Ranking
pub mod Promises
pub mod Cases
