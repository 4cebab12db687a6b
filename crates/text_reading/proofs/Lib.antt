pub mod Bytes
pub mod Answers
pub mod Readings
pub mod Lengths
pub mod Said
pub mod Outcome
