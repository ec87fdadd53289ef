pub mod Counts
pub mod Numbers
pub mod Fleets
pub mod Values
pub mod Ranges
