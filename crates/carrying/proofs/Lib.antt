pub mod Carries
pub mod Runs
pub mod Asked
pub mod Meanings
