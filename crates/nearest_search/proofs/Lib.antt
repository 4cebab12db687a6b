pub mod HowBytes
pub mod Handed
pub mod Finding
pub mod Again
