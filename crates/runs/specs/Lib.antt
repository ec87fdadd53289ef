pub mod Upward
pub mod Helping
