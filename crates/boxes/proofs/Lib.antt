pub mod Boxed
pub mod Outside
pub mod Truth
