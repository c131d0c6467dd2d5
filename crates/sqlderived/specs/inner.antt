-- Words for this crate's own functions, which no promise of the registry names.
pub mod Finding
pub mod Holders
pub mod Near
pub mod Recounts
