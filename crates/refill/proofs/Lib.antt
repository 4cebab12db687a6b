pub mod Positions
pub mod Wording
pub mod Refilling
pub mod Linking
pub mod Cases
