pub mod Going
pub mod Share
pub mod Passes
pub mod Firsts
pub mod Appending
pub mod Standings
pub mod Begins
