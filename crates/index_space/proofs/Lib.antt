pub mod Leasts
pub mod Opening
pub mod Below
pub mod Laws
pub mod Begin
pub mod Ranks
pub mod Exact
pub mod Leaving
