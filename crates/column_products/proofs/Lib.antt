pub mod Items
pub mod Firsts
pub mod Laying
pub mod Choosing
pub mod Theorems
