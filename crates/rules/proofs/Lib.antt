pub mod RowLemmas
mod ActionLemmas
mod CauseLemmas
mod BreachLemmas
pub mod LawLemmas
mod OrderLemmas
pub mod RenewalLemmas
