pub mod Settings
pub mod Walk
pub mod WalkLaws
