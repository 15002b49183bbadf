pub mod Enclosures
pub mod Isotony
pub mod Squares
