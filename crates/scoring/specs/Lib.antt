pub mod Count
pub mod Faults
pub mod Range
