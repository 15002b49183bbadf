-- What the flows at a node leave to one of them.
use Rattle.std.specs.Prelude.{ℕ, ◌*◌, ℤ, ◌+ℤ◌, ◌-ℤ◌, ◌*ℤ◌, List, Bool, true, false, if◌then◌else◌, int_le}
use Rattle.gas_model.specs.declared.rows.ArcRow.{ArcRow}
use Rattle.gas_model.specs.declared.rows.Ends.{Ends}
use Rattle.gas_model.specs.declared.rows.NodeRow.{NodeRow}
use Rattle.gas_model.specs.Boxes.{Bounds}
use Rattle.gas_model.specs.Points.{sum_out, sum_in}
use Rattle.integer_laws.specs.Sizes.{IsWithin}
use Rattle.element_laws.specs.Sizes.{most_flow}
use Rattle.tree_rules.specs.Rules.{flow_lo, flow_hi}

-- what leaves the node n less what enters it, at least and at most
abbrev pub net_low : Bounds → ℕ → List ArcRow → ℤ
net_low b n arcs = sum_out (flow_lo b) n arcs -ℤ sum_in (flow_hi b) n arcs

abbrev pub net_high : Bounds → ℕ → List ArcRow → ℤ
net_high b n arcs = sum_out (flow_hi b) n arcs -ℤ sum_in (flow_lo b) n arcs

-- the supply of a node, in units of 1/K
abbrev pub supply_of : ℤ → NodeRow → Ends
supply_of K node = record { lo = K *ℤ node.b_min; hi = K *ℤ node.b_max }

-- an end of a flow q that leaves the node may become C
abbrev pub leaves_with : (supply net q : Ends) → (low : Bool) → (C : ℤ) → Bool
leaves_with supply net q true C = int_le C (supply.lo -ℤ net.hi +ℤ q.hi)
leaves_with supply net q false C = int_le (supply.hi -ℤ net.lo +ℤ q.lo) C

-- the same of a flow that enters it
abbrev pub enters_with : (supply net q : Ends) → (low : Bool) → (C : ℤ) → Bool
enters_with supply net q true C = int_le C (net.lo -ℤ supply.hi +ℤ q.hi)
enters_with supply net q false C = int_le (net.hi -ℤ supply.lo +ℤ q.lo) C

-- the balance lets an end of the flow q become C, where the flow leaves the node or enters it
abbrev pub balance_lets : (leaves : Bool) → (supply net q : Ends) → (low : Bool) → (C : ℤ) → Bool
balance_lets leaves supply net q low C = if leaves then leaves_with supply net q low C else enters_with supply net q low C

-- sums of as many flows as a problem has
pub record AreSums (e : Ends) : Type 0 where
  pub lo : IsWithin (2000 * most_flow) e.lo
  pub hi : IsWithin (2000 * most_flow) e.hi
