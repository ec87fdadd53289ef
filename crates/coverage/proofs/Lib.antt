pub mod Laying
pub mod Calling
pub mod Told
pub mod Means
