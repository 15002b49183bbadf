pub mod Nodes
pub mod Arcs
pub mod Network
