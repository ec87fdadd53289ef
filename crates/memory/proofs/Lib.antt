pub mod Copies
pub mod Scans
pub mod Counts
pub mod Sounds
