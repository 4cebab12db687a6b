pub mod Ranges
pub mod Faults
pub mod Outcomes
pub mod Told
pub mod Numbers
pub mod Rooms
