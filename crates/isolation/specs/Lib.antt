pub mod Redaction
pub mod Public
pub mod Runs
pub mod Alike
pub mod Laws
