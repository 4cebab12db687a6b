pub mod Entries
pub mod Entering
pub mod Above
pub mod Laying
pub mod Lodging
