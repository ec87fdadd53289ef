pub mod Reading
pub mod Extremes
pub mod Bounds
pub mod Moves
pub mod Forms
pub mod Sides
pub mod Shifting
pub mod Following
