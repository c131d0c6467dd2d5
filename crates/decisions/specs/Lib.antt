pub mod Changes
pub mod Transfers
pub mod Decisions
pub mod Steps
pub mod Orders
pub mod Isolation
pub mod Askable
