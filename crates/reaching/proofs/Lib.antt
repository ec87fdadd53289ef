pub mod Windows
pub mod Ranks
pub mod Good
pub mod Marking
pub mod Changing
pub mod Adding
pub mod Starting
pub mod Walks
