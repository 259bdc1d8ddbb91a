pub mod Answers
pub mod Faults
pub mod Leaf
pub mod Model
pub mod Of
pub mod Scores
pub mod Words
