pub mod Closings
pub mod Laying
pub mod LineEnds
pub mod Runs
pub mod Sheets
pub mod Texts
