pub mod Contents
pub mod Edits
pub mod Plain
pub mod inner
pub mod Renaming
