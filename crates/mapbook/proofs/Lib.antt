pub mod EditLemmas
pub mod PostingLemmas
pub mod PlainLemmas
pub mod HeldLemmas
mod RenameLemmas
pub mod Words
