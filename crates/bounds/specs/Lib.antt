pub mod Sizes
pub mod Intervals
pub mod Ends
pub mod Rows
