pub mod Placing
pub mod Dividing
