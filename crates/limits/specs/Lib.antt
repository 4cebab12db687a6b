pub mod Limits
pub mod Said
pub mod Chosen
pub mod Refusal
