pub mod Proposed
pub mod Outcomes
