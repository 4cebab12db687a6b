pub mod Did
pub mod Verdicts
