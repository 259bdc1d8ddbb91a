pub mod Measure
pub mod Settings
