pub mod FrontLaws
pub mod TurnLaws
