pub mod Stored
pub mod Copies
pub mod inner
