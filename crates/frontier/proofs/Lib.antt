pub mod LeastKept
pub mod Beyond
pub mod Queueing
pub mod Reading
