-- Words for this crate's own functions, which no promise of the registry names.
pub mod FaceLaws
pub mod Passing
pub mod Posting
pub mod Steps
