pub mod Sheets
pub mod Signs
pub mod Carries
pub mod Shorter
