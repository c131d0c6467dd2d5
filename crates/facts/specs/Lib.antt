pub mod Lists
pub mod Facts
