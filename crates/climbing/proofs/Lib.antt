pub mod Posing
pub mod Stopping
pub mod Climbing
