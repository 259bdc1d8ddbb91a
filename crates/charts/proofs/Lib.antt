pub mod Backward
pub mod LeafLaws
pub mod Lists
pub mod Looking
pub mod Running
pub mod Stepping
pub mod WordLaws
