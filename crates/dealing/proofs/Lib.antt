pub mod Marking
pub mod Reaches
pub mod Settling
pub mod Kids
pub mod Children
