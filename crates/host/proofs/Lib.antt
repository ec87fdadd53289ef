pub mod Lengths
pub mod Meanings
pub mod Ways
pub mod Fleets
pub mod Extremes
pub mod Plans
pub mod Ranges
