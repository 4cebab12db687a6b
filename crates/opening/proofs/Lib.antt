pub mod Late
pub mod Olds
pub mod Grown
pub mod Waited
pub mod Paths
