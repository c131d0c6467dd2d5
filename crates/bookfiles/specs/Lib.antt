pub mod Restarts
pub mod Unopened
