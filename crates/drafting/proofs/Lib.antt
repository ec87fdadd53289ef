pub mod Sketches
pub mod Making
pub mod Draws
pub mod Bridge
