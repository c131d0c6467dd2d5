-- Words for this crate's own functions, which no promise of the registry names.
pub mod Posting
pub mod Replacing
pub mod Suiting
