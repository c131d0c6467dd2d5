-- Words for this crate's own functions, which no promise of the registry names.
pub mod Changes
pub mod Delegations
pub mod Links
pub mod Names
pub mod Stages
