pub mod Members
pub mod Item
