pub mod OpeningLemmas
pub mod OpenedLemmas
pub mod StepLemmas
pub mod LapsingLemmas
pub mod LapseSteps
mod BacklogSteps
pub mod CrashLemmas
pub mod Answering
pub mod CallsKept
pub mod PassingSteps
pub mod PublicLemmas
pub mod Words
