pub mod Kept
pub mod PipeLimits
pub mod Marked
pub mod TableTurns
