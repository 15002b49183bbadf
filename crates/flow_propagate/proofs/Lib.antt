pub mod Drops
pub mod ArcFlows
pub mod AtNode
pub mod NodeFlows
