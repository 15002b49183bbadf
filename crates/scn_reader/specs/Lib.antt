pub mod Bounds
pub mod Scenario
