pub mod Numbering
pub mod Positions
pub mod Pairing
pub mod Framed
pub mod Whole
