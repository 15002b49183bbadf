pub mod Solving
pub mod Saying
