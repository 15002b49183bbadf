pub mod Sets
pub mod Groups
