pub mod Told
pub mod Withdrawn
