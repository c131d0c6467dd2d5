pub mod MetaLemmas
pub mod NameLemmas
pub mod TermsLemmas
