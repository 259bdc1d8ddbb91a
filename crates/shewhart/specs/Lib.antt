pub mod Settings
pub mod Shewhart
pub mod ShewhartLaws
