pub mod Search
pub mod SearchPrefixes
pub mod Counting
pub mod Points
pub mod CountPrefixes
