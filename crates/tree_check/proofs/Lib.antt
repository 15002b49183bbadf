pub mod CutNodes
pub mod Undoing
pub mod Heads
pub mod Judging
pub mod CutArcs
