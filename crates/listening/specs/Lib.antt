pub mod Ports
pub mod inner
