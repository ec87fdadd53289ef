pub mod Draft
pub mod State
pub mod Desk
