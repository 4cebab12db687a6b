pub mod Written
pub mod Listed
pub mod Fitted
pub mod Counted
pub mod Did
