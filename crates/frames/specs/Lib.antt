pub mod Frames
pub mod Texts
pub mod Clocks
pub mod Outcomes
pub mod Sessions
