pub mod Circles
pub mod Depths
pub mod Plainly
pub mod Meaning
pub mod Ascents
pub mod SameFaults
