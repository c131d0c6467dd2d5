-- Words for this crate's own functions, which no promise of the registry names.
pub mod Changes
pub mod Finding
pub mod Posting
pub mod Queue
