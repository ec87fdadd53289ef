pub mod Past
pub mod Trace
pub mod Working
