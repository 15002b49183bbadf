pub mod RootBounds
pub mod RuleLists
pub mod SquareBounds
pub mod DragBounds
pub mod SquareMoves
pub mod ArcClosings
