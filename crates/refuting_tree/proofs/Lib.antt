pub mod Telling
pub mod LinesRead
