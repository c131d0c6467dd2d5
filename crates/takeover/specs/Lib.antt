pub mod Ends
pub mod Files
pub mod Graces
pub mod Migrating
pub mod inner
