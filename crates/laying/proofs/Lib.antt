pub mod Halves
pub mod Storing
pub mod Ordering
pub mod Lining
pub mod Popping
pub mod Seeing
pub mod Finishing
pub mod Handing
