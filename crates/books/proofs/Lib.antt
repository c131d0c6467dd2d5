pub mod PutLemmas
pub mod FoundLemmas
pub mod LinesOnLemmas
pub mod RenameLemmas
pub mod KeptLemmas
pub mod GroupingLemmas
