pub mod Firsts
pub mod Joining
