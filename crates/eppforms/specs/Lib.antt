pub mod Kind
pub mod Member
pub mod Table
pub mod Form
