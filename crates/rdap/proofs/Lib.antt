mod HeadLemmas
mod RequestLemmas
mod RouteLemmas
mod WireLemmas
mod Plain
pub mod AnswerLemmas
