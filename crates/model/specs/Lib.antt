pub mod Limits
pub mod Refusals
pub mod Lists
pub mod Sets
pub mod Numbers
pub mod Existential
pub mod Values
pub mod Refused
