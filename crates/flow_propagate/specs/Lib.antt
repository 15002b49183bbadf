pub mod Drops
pub mod FlowRules
