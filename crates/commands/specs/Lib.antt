pub mod Promises
pub mod Found
