pub mod Tables
pub mod Stepping
pub mod Growing
pub mod Left
