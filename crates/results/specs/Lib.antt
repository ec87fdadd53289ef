pub mod Outcome
pub mod Results
