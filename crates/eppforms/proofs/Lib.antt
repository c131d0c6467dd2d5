pub mod Items
pub mod Members
pub mod Forms
