pub mod Written
pub mod Lent
pub mod Listed
pub mod Marks
