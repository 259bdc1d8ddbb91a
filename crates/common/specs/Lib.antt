pub mod Made
pub mod Refusals
pub mod Score
