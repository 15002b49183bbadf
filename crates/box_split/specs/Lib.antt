pub mod Forks
pub mod Parts
