pub mod MoveLemmas
