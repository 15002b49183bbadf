pub mod Decimals
pub mod Numbers
pub mod Sizes
pub mod Places
pub mod Cuts
pub mod Fields
pub mod LongNumbers
