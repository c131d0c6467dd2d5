pub mod Dues
pub mod Redates
pub mod Held
pub mod inner
