pub mod Faults
pub mod Keys
pub mod Rules
pub mod Reading
pub mod Terms
