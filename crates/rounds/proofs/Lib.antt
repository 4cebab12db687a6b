pub mod Parts
pub mod Entries
pub mod Nearing
pub mod Seeking
pub mod Choosing
