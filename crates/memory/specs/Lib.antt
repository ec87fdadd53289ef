pub mod Memory
pub mod Sound
