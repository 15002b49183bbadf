pub mod Flattening
pub mod Saying
