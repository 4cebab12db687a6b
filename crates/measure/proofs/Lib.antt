pub mod Basics
pub mod Metric
pub mod Rows
pub mod OnCircle
pub mod Capped
