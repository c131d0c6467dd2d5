mod LineLemmas
mod AnswerLemmas
mod RunLemmas
mod BeginLemmas
mod HaltLemmas
mod EndLemmas
mod OrderLemmas
