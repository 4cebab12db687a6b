pub mod Gathering
pub mod Items
pub mod Theorems
