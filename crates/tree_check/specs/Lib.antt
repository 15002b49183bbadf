pub mod Held
pub mod Undo
pub mod Cuts
pub mod Reading
pub mod Verdicts
