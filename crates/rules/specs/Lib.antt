pub mod Expressions
pub mod Rules
pub mod Divisions
