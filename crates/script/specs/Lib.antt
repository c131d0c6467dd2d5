pub mod Lines
pub mod Exits
pub mod Runs
pub mod Deposits
pub mod Orders
pub mod inner
