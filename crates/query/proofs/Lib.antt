pub mod Held
pub mod Reading
pub mod Holding
pub mod Points
pub mod Answers
pub mod Means
pub mod Handed
pub mod Seats
