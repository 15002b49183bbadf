pub mod Refused
pub mod Joining
