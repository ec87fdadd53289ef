pub mod Lists
pub mod Count
pub mod Values
pub mod Existential
pub mod Numbers
pub mod Refused
