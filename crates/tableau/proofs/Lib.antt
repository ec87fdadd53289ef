pub mod Lines
pub mod Searches
