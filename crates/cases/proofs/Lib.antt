pub mod Covered
pub mod Right
