pub mod Objects
pub mod Sponsors
pub mod Changes
pub mod inner
