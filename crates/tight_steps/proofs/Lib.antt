pub mod Bests
pub mod Boxes
pub mod ArcMoves
pub mod Allowed
pub mod OtherArcs
pub mod OtherNodes
pub mod Quiet
pub mod FirstEnds
