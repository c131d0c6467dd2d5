pub mod MessageLaws
pub mod QueueLaws
pub mod LineLaws
pub mod GroupLaws
pub mod EntryLaws
