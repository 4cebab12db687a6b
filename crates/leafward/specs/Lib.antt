pub mod Way
pub mod Changed
