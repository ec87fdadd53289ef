pub mod Numbers
pub mod Quotients
