pub mod Marked
pub mod Pending
pub mod Dealt
