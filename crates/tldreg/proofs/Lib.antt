mod WordLemmas
pub mod AskingLemmas
pub mod OptionLemmas
