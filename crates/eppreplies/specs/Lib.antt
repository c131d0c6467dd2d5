pub mod Reply
pub mod Answer
pub mod Greeting
pub mod Session
