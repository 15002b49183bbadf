pub mod ByName
pub mod Index
