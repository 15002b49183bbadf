pub mod Searches
pub mod Turns
pub mod Levels
pub mod Laws
