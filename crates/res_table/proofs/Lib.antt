pub mod Between
pub mod Spelled
pub mod Turns
