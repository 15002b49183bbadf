pub mod Trimming
pub mod Tighter
pub mod Theorems
