pub mod Upward
mod Helped
pub mod Stops
