pub mod Best
pub mod Moves
pub mod Mentions
pub mod Frame
pub mod NewEnds
