pub mod Domains
pub mod inner
