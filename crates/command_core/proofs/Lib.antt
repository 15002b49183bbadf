pub mod Outs
pub mod Concluding
pub mod Walks
pub mod Parsing
pub mod Conclusions
pub mod Doing
pub mod Lines
