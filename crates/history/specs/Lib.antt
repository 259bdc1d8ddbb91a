pub mod Faults
pub mod LookBack
