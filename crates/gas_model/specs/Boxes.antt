-- Boxes: a lower and an upper end for each flow and each square, in units of 1/K.
use Rattle.std.specs.Prelude.{◌≡◌, ℤ, pos, ◌+ℤ◌, ◌-ℤ◌, ◌*ℤ◌, ◌≤ℤ◌, int_le, int_lt, ◌&&◌, List, length, map, position, option_map, Bool, true, false, nat_lt, Option, IsTrue, slice_index_or, slice_set}
use Rattle.std.specs.Option.{option_or}
use Rattle.gas_model.specs.declared.rows.NodeRow.{NodeRow}
use Rattle.gas_model.specs.declared.rows.ArcRow.{ArcRow}
use Rattle.gas_model.specs.declared.rows.Ends.{Ends}
use Rattle.base_types.specs.declared.variables.Var.{Var}
use Rattle.base_types.specs.declared.variables.Var.TheVariants.{Flow, Square}
use Rattle.gas_model.specs.Rows.{Network}
use Rattle.gas_model.specs.Curves.{square}
use Rattle.gas_model.specs.Points.{Point}

-- what contracts see of a box
pub record Bounds : Type 0 where
  pub flows : List Ends
  pub squares : List Ends

abbrev pub no_ends : Ends
no_ends = record { lo = pos 0; hi = pos 0 }

-- the ends of a variable
abbrev pub ends_of : Bounds → Var → Ends
ends_of b (Flow a) = slice_index_or b.flows a no_ends
ends_of b (Square n) = slice_index_or b.squares n no_ends

-- the box has an end of each variable of a problem
pub record BoxFits (p : Network) (b : Bounds) : Type 0 where
  pub flows : length b.flows ≡ length p.arcs
  pub squares : length b.squares ≡ length p.nodes

-- the variable is one of the box
abbrev pub is_in_box : Bounds → Var → Bool
is_in_box b (Flow a) = nat_lt a (length b.flows)
is_in_box b (Square n) = nat_lt n (length b.squares)

-- the variable is one of the problem
abbrev pub is_var : Network → Var → Bool
is_var p (Flow a) = nat_lt a (length p.arcs)
is_var p (Square n) = nat_lt n (length p.nodes)

-- the upper less the lower end
abbrev pub width_of : Ends → ℤ
width_of e = e.hi -ℤ e.lo

-- the lower end is above the upper end
abbrev pub is_empty : Ends → Bool
is_empty e = int_lt e.hi e.lo

-- the first variable whose lower end is above its upper end, flows before squares
abbrev pub first_empty : Bounds → Option Var
first_empty b = option_or (option_map Flow (position is_empty b.flows)) (option_map Square (position is_empty b.squares))

-- the ends of the bounds of a flow and of a square
abbrev pub flow_ends : ℤ → ArcRow → Ends
flow_ends K row = record { lo = K *ℤ row.q_min; hi = K *ℤ row.q_max }

abbrev pub square_ends : ℤ → NodeRow → Ends
square_ends K node = record { lo = K *ℤ square node.p_min; hi = K *ℤ square node.p_max }

-- the box of the bounds of a problem
abbrev pub opening : ℤ → Network → Bounds
opening K p = record { flows = map (flow_ends K) p.arcs; squares = map (square_ends K) p.nodes }

-- the lower end becomes C where `low` holds, else the upper end
abbrev pub with_end : Bool → ℤ → Ends → Ends
with_end true C e = record { lo = C; hi = e.hi }
with_end false C e = record { lo = e.lo; hi = C }

abbrev pub with_ends : Bounds → Var → Ends → Bounds
with_ends b (Flow a) e = record { flows = slice_set b.flows a e; squares = b.squares }
with_ends b (Square n) e = record { flows = b.flows; squares = slice_set b.squares n e }

-- the box in which one end of a variable becomes C
abbrev pub tightened : Bounds → Var → Bool → ℤ → Bounds
tightened b v low C = with_ends b v (with_end low C (ends_of b v))

-- the values that a step may give an end: it moves inward, and at most one past the other end
abbrev pub may_become : Bool → ℤ → Ends → Bool
may_become true C e = int_lt e.lo C && int_le C (e.hi +ℤ pos 1)
may_become false C e = int_le (e.lo -ℤ pos 1) C && int_lt C e.hi

-- the numerator of a variable
abbrev pub numerator : Point → Var → ℤ
numerator x (Flow a) = x.flow a
numerator x (Square n) = x.square n

-- the fraction n / d lies between the ends
pub record IsBetween (K d n : ℤ) (e : Ends) : Type 0 where
  pub above : (d *ℤ e.lo) ≤ℤ (K *ℤ n)
  pub below : (K *ℤ n) ≤ℤ (d *ℤ e.hi)

-- the point lies in the box
abbrev pub Contains : ℤ → Bounds → Point → Type 0
Contains K b x = (v : Var) → IsTrue (is_in_box b v) → IsBetween K x.d (numerator x v) (ends_of b v)
