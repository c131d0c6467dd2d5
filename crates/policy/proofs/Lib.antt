pub mod TextLemmas
pub mod DocumentLemmas
pub mod DatedLemmas
pub mod ScheduleLemmas
pub mod TermsLemmas
