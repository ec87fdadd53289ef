pub mod Box
pub mod Range
