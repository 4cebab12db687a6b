pub mod Index
pub mod Low
pub mod Listed
