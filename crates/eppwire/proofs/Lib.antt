pub mod IsolationLemmas
pub mod LoginLemmas
pub mod RunLemmas
pub mod LateLemmas
pub mod FollowLemmas
