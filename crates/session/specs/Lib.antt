pub mod Script
pub mod Turns
pub mod Session
