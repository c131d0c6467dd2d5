-- Words for this crate's own functions, which no promise of the registry names.
pub mod Contacts
pub mod Domains
pub mod Hosts
pub mod Lines
