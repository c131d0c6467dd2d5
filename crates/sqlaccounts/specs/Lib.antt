pub mod Accounts
pub mod Graces
pub mod inner
