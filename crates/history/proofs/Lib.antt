pub mod Accepted
pub mod LookBackLaws
pub mod Scoring
