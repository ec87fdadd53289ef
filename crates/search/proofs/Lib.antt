pub mod Parts
pub mod Lives
pub mod Climbs
pub mod Searching
