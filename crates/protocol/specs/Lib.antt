pub mod Codes
pub mod Years
pub mod Texts
pub mod Requests
pub mod Orders
