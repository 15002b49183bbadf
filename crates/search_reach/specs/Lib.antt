pub mod Depth
pub mod StepPaths
pub mod Widths
pub mod Finest
pub mod SharedFlow
pub mod Budgets
pub mod Reached
