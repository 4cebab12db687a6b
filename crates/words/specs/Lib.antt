pub mod Words
pub mod Shape
pub mod InShape
pub mod Index
