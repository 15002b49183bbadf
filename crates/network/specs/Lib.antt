pub mod Faults
pub mod Table
pub mod Marks
pub mod Tables
pub mod Nodes
pub mod Decisions
pub mod Joined
