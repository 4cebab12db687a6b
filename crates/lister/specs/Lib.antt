pub mod Keeps
pub mod Listing
