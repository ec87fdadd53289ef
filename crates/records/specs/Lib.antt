pub mod Sound
pub mod Writing
