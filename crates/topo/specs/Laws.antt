-- What holds of all shapes.
use Rattle.std.specs.Prelude.{◌≡◌}
use Rattle.gas_model.specs.declared.rows.PartState.{PartState}
use Rattle.gas_model.specs.Rows.{Network}
use Rattle.topo.specs.Shapes.{Layout, IsShapeOf}

-- a network has only one shape in a part state, and so only one walk
abbrev pub OneShape : Type 0
OneShape = (p : Network) (part : PartState) (s t : Layout) → IsShapeOf p part s → IsShapeOf p part t → s ≡ t
