pub mod Answering
pub mod Meeting
pub mod Meanings
