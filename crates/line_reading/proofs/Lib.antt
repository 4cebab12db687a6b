pub mod LineRuns
pub mod Gathered
