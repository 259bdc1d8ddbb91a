pub mod Runs
pub mod Settings
pub mod RunsLaws
pub mod Marks
