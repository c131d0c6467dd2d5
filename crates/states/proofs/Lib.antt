pub mod LeavingLemmas
pub mod CallLemmas
