pub mod Clock
pub mod Meta
pub mod Terms
pub mod inner
