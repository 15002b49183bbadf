-- How work on a box ends.
use Rattle.std.specs.List.{All}
use Rattle.gas_model.specs.Rows.{Network}
use Rattle.box_pool.specs.declared.open_box.BoxView.{BoxView}
use Rattle.look_ahead.specs.declared.refuting.End.{End}
use Rattle.look_ahead.specs.declared.refuting.End.TheVariants.{Shut, Split, Stuck}
use Rattle.look_ahead.specs.Views.{CanBegin, IsStableView}

-- the box that is left is stable, and its children can be made, where it is split
abbrev pub Leaves : Network → BoxView → End → Type 0
Leaves p v Shut = Unit {0}
Leaves p v (Split children) = IsStableView p v × All (CanBegin p v) children.heads
Leaves p v Stuck = Unit {0}
