pub mod Laws
pub mod Firsts
