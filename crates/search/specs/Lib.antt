pub mod Sides
pub mod Live
pub mod Levels
