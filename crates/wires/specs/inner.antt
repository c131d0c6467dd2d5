-- Words for this crate's own functions, which no promise of the registry names.
pub mod Lateness
pub mod Rooms
pub mod Log
pub mod Progress
pub mod Replies
