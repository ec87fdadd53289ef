pub mod Boxing
pub mod Calls
pub mod Readings
