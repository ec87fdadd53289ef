pub mod Shows
pub mod Walks
