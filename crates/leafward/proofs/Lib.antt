pub mod Choosing
pub mod Walking
pub mod Changing
