pub mod Signs
pub mod Digits
pub mod Sizes
