pub mod Lines
pub mod Says
pub mod Closing
pub mod Reading
pub mod Reads
