pub mod Names
pub mod Concerns
pub mod ConcernLaws
pub mod DueFor
