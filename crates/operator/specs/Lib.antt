pub mod Requests
pub mod Heard
pub mod Answers
pub mod Operations
