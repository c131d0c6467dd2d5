pub mod Columns
pub mod Layouts
pub mod Read
pub mod Meanings
pub mod inner
