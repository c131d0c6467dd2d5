-- Words for this crate's own functions, which no promise of the registry names.
pub mod Ends
pub mod Words
pub mod Nearness
pub mod Options
pub mod Asking
pub mod Databases
