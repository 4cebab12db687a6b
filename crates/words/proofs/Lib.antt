pub mod Levels
pub mod Tiles
pub mod Nodes
pub mod Headers
pub mod InShape
pub mod Positions
pub mod Indexes
pub mod Strides
