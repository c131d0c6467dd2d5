mod ConnectionLemmas
mod PeerLemmas
pub mod PassingLemmas
mod HttpLemmas
mod PublicLemmas
pub mod ListeningLemmas
mod SessionRunLemmas
mod AlikeSessionLemmas
mod ClosingLemmas
