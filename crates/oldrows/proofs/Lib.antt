pub mod AskingLemmas
pub mod TextLemmas
pub mod AdoptedLemmas
pub mod CopyLemmas
