-- Words for this crate's own functions, which no promise of the registry names.
pub mod Calls
pub mod Definitions
pub mod Layouts
pub mod Plain
pub mod Transactions
