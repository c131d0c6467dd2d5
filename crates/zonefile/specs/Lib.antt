pub mod Lines
pub mod ZoneText
