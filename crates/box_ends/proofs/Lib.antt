pub mod EndFits
pub mod HeldEnds
pub mod EmptyVars
