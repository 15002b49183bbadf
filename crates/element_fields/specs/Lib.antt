pub mod Answers
pub mod Lookup
pub mod Names
pub mod Quantities
pub mod Files
pub mod Children
