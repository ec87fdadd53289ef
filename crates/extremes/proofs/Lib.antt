pub mod Fractions
pub mod Goals
mod Leaving
pub mod Choices
pub mod Bridge
pub mod Halves
pub mod Beginning
pub mod Outcomes
pub mod Numbered
pub mod Asked
pub mod Complement
