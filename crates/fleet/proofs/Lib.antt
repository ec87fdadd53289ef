pub mod Masks
pub mod Passing
pub mod Fleets
pub mod Members
