pub mod Parsing
mod Flags
pub mod Split
pub mod Encoded
pub mod Decoded
pub mod Walking
pub mod Standing
pub mod Boundaries
pub mod Valid
pub mod Commands
pub mod RoundTrips
pub mod Located
mod Ranges
mod Leading
pub mod Refusing
