pub mod Clocks
pub mod Http
pub mod Connections
pub mod Listening
pub mod ZoneExport
pub mod Public
pub mod SessionRuns
pub mod inner
