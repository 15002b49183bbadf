pub mod ArcTighter
pub mod NodeTighter
pub mod RuleTighter
pub mod BoxTighter
pub mod PlaceTighter
pub mod Trims
