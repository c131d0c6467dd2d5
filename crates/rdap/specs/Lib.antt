pub mod Answers
pub mod StatusWords
pub mod Heads
pub mod Requests
pub mod Routes
pub mod Bodies
pub mod Answering
