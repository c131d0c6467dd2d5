pub mod PostedLemmas
pub mod ConcernLemmas
pub mod FactsLemmas
pub mod ChangeLemmas
pub mod CommandLemmas
pub mod OrderLemmas
