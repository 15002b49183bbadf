pub mod Refused
pub mod Replaying
pub mod Saying
