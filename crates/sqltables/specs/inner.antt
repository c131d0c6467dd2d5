-- Words for this crate's own functions, which no promise of the registry names.
pub mod Adoption
pub mod Answers
pub mod Balance
pub mod Calls
pub mod Content
pub mod Due
pub mod Faults
pub mod FirstTables
pub mod Reopening
pub mod Rows
pub mod Statements
pub mod Stored
pub mod Consistent
