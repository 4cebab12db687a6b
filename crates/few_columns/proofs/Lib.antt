pub mod Spared
