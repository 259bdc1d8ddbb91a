pub mod ScoreLaws
