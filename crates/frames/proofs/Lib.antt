pub mod FrontLemmas
pub mod SplitLemmas
pub mod SessionLemmas
