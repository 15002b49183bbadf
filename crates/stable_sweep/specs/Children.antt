-- Boxes that are children of stable boxes.
use Rattle.std.specs.Prelude.{◌≡◌, ◌<◌, false, length, Option, Some, None, IsTrue}
use Rattle.gas_model.specs.declared.rows.PartState.{PartState}
use Rattle.gas_model.specs.Rows.{Network}
use Rattle.gas_model.specs.Boxes.{Bounds, ends_of, is_var, is_empty}
use Rattle.box_ends.specs.Empty.{LeavesAll}
use Rattle.tree_cert.specs.declared.line.Head.{Head}
use Rattle.tree_cert.specs.declared.line.Head.TheVariants.{Take, State, Half}
use Rattle.tree_rules.specs.Branches.{headed}
use Rattle.tree_rules.specs.Rules.{PartBox}
use Rattle.stable_sweep.specs.Components.{NoneCuts}
use Rattle.stable_sweep.specs.Settling.{IsStable}

-- the arc or the variable of a head is one of the problem
abbrev pub IsHeadOf : Network → Option Head → Type 0
IsHeadOf p None = Unit {0}
IsHeadOf p (Some (Take k j)) = Unit {0}
IsHeadOf p (Some (State a state)) = a < length p.arcs
IsHeadOf p (Some (Half v low C)) = IsTrue (is_var p v)

-- it has this head more than a stable box
pub record IsStableChild (p : Network) (b : PartBox) (h : Head) : Type 0 where
  pub parent : PartBox
  pub stable : IsStable p parent
  pub child : b ≡ headed parent h

-- a box without a head is any
abbrev pub ComesBy : Network → PartBox → Option Head → Type 0
ComesBy p b None = Unit {0}
ComesBy p b (Some h) = IsStableChild p b h

-- the variables that a head may empty leave a value each, and no component is a cut that a head may cut off
abbrev pub LeavesBy : Bounds → Option Head → Type 0
LeavesBy b None = LeavesAll b
LeavesBy b (Some (Take k j)) = Unit {0}
LeavesBy b (Some (State a state)) = Unit {0}
LeavesBy b (Some (Half v low C)) = is_empty (ends_of b v) ≡ false

abbrev pub NoneCutsBy : Network → PartState → Option Head → Type 0
NoneCutsBy p part None = NoneCuts p part
NoneCutsBy p part (Some (Take k j)) = NoneCuts p part
NoneCutsBy p part (Some (State a state)) = NoneCuts p part
NoneCutsBy p part (Some (Half v low C)) = Unit {0}
