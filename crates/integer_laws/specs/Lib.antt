pub mod Sizes
pub mod Products
