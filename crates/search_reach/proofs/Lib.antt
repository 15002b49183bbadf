mod BudgetCounts
mod BudgetWays
mod DepthKids
mod Filters
mod DepthLoose
mod DepthParts
mod DepthTree
mod DepthWidth
pub mod BudgetLaw
pub mod DepthLaw
pub mod FinestBoxes
pub mod FinestLaws
pub mod HalfEach
pub mod Reaching
pub mod StepChildren
pub mod StepLaws
pub mod StepPairs
pub mod StepRows
pub mod StepWidths
pub mod WidthEnds
pub mod WidthHalves
pub mod WidthKids
pub mod WidthLaws
pub mod WidthRounds
pub mod WidthRows
pub mod WidthTurns
pub mod WidthWays
