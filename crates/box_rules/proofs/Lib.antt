pub mod SideFits
pub mod OtherRules
pub mod FormLimits
pub mod LawSteps
pub mod ArcVars
pub mod NodeFlows
