pub mod Onward
pub mod Along
pub mod Firsts
