pub mod DrawnNear
pub mod Halving
pub mod Narrowing
