pub mod Built
pub mod Floats
