pub mod Taking
pub mod Rooting
pub mod Joining
