pub mod Spelled
pub mod NodesRead
