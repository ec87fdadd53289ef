pub mod Subtraction
