pub mod Wiped
pub mod MetRows
