pub mod Labels
pub mod Reading
pub mod Canonical
pub mod Zone
pub mod RequestedName
pub mod Names
pub mod Ipv6
pub mod Addresses
