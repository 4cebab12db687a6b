pub mod Standing
pub mod Handled
pub mod Asked
pub mod Rounds
