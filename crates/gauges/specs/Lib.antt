pub mod Gauges
pub mod Settings
pub mod GaugesLaws
