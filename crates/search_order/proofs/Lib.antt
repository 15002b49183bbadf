pub mod Counts
pub mod Grown
pub mod Stops
pub mod Quits
pub mod PathOrder
pub mod Depth
pub mod Members
