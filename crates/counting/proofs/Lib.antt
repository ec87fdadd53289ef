pub mod Sides
pub mod Zeros
pub mod Summing
pub mod Calling
