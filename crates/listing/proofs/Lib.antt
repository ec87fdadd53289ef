pub mod Writing
pub mod LineTexts
