pub mod LastOf
pub mod RowEntries
pub mod Holding
pub mod Stopping
pub mod Entering
pub mod Handing
pub mod Ordering
pub mod Handouts
