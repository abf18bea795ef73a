pub mod TakenLaws
pub mod StandingLaws
