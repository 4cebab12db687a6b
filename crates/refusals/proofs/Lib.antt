pub mod OffCircle
pub mod Refusals
pub mod Tested
