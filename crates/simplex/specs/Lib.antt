pub mod Tableau
pub mod Table
