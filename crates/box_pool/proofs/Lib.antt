pub mod Decisions
pub mod Pooled
pub mod ForkOf
pub mod ForkKids
pub mod Forked
pub mod StillFits
pub mod ViewKids
pub mod KeptOf
