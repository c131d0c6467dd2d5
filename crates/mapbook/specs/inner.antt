-- Words for this crate's own functions, which no promise of the registry names.
pub mod Edits
pub mod Posting
