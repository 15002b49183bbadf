pub mod Reads
pub mod Cores
pub mod Theorems
pub mod Examples
pub mod CoreTexts
pub mod TextTheorems
