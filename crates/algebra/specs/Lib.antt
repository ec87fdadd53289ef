pub mod Tighten
pub mod Cut
pub mod Operations
pub mod Result
pub mod Levels
