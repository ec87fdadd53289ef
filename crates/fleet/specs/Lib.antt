pub mod Fleet
pub mod Looking
