pub mod Beginning
pub mod Meaning
pub mod Suiting
pub mod Files
pub mod BetweenCalls
pub mod AsBook
pub mod inner
