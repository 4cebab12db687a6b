pub mod Distances
