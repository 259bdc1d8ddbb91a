pub mod Page
pub mod Settings
pub mod PageLaws
