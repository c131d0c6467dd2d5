pub mod Runs
pub mod RunLaws
pub mod Crashes
pub mod CrashLaws
