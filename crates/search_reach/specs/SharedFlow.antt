-- Two equal pipes that share a flow of 1: a point that no whole numbers give, alone in a box that can't be split.
use Rattle.std.specs.Prelude.{ℕ, ◌==◌, ℤ, pos, negsuc, List, [], ◌∷◌, codes, None, if◌then◌else◌}
use Rattle.base_types.specs.declared.states.ArcState.TheVariants.{Opened}
use Rattle.gas_model.specs.declared.rows.ArcRow.{ArcRow}
use Rattle.gas_model.specs.declared.rows.ArcKind.TheVariants.{Pipe}
use Rattle.gas_model.specs.declared.rows.Ends.{Ends}
use Rattle.gas_model.specs.Rows.{Network}
use Rattle.gas_model.specs.Points.{Point}
use Rattle.tree_rules.specs.Examples.{node, arc}
use Rattle.tree_rules.specs.Rules.{PartBox}
use Rattle.tree_rules.specs.Theorems.{IsIn}
use Rattle.search_reach.specs.Finest.{IsFinest}

-- a pipe of resistance 1 between the two nodes
abbrev pub plain_pipe : List ℕ → ArcRow
plain_pipe id = arc id (negsuc 9) (pos 10) (Pipe (record { lo = pos 1; hi = pos 1; den = pos 1 }))

-- from 5 Pa and a supply of 1 to 4 to 5 Pa and a demand of 1
abbrev pub equal_pipes : Network
equal_pipes = record {
  nodes = node (codes "a") (pos 5) (pos 5) (pos 1) (pos 1) ∷ node (codes "b") (pos 4) (pos 5) (negsuc 0) (negsuc 0) ∷ [];
  arcs = plain_pipe (codes "p") ∷ plain_pipe (codes "r") ∷ [];
  groups = [];
}

-- both ends at one value
abbrev pub one_value : ℤ → Ends
one_value z = record { lo = z; hi = z }

-- the box of one point in sixteenths, in which no state is named
abbrev pub half_each : PartBox
half_each = record {
  scale = pos 16;
  part = record { picks = []; states = None ∷ None ∷ [] };
  bounds = record { flows = one_value (pos 8) ∷ one_value (pos 8) ∷ []; squares = one_value (pos 400) ∷ one_value (pos 396) ∷ [] };
}

-- that point, in quarters: one half flows in each pipe, and the squares are 25, and 24 and three quarters
abbrev pub quarters : Point
quarters = record { d = pos 4; positive = record { le = tt }; flow = λ a. pos 2; square = λ n. if n == 0 then pos 100 else pos 99 }

-- no variable of the box is wide, and its point meets all laws
abbrev pub SharedFlow : Type 0
SharedFlow = IsFinest half_each × IsIn equal_pipes half_each [] (Opened ∷ Opened ∷ []) quarters
