pub mod Closest
pub mod Held
pub mod Laid
pub mod Sharing
pub mod Parted
pub mod Among
pub mod SplitWords
pub mod SplitRun
