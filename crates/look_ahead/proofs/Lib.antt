pub mod Closings
pub mod Begins
