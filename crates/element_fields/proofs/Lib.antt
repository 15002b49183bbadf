pub mod Rows
pub mod Folds
pub mod FileReads
pub mod Far
pub mod Within
