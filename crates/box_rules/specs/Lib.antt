pub mod ArcLimits
pub mod Balance
