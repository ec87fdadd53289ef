mod Filling
pub mod Emitting
pub mod RoundTrips
