-- Words for this crate's own functions, which no promise of the registry names.
pub mod Adoption
pub mod Copies
pub mod Lines
pub mod Stored
pub mod Tables
