pub mod Extracts
pub mod Tables
