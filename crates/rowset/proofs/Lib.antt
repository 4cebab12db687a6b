pub mod Digits
pub mod Rows
pub mod Refused
pub mod Shifts
