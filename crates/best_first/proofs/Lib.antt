pub mod Keeps
pub mod Measured
pub mod Local
pub mod Low
