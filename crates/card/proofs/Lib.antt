pub mod Filling
pub mod Contract
pub mod Theorems
pub mod Damage
pub mod RoundTrip
pub mod Cases
pub mod Spoilt
