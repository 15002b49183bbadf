-- The bounds of a nominated node, or its first offence.
use Rattle.std.specs.Prelude.{ℕ, List, if◌then◌else◌, Option, Some, None, Result, Ok, Err, ℤ, codes}
use Rattle.std.specs.Int.{int_min, int_max}
use Rattle.std.specs.Str.{bytes_eq}
use Rattle.gas_units.specs.declared.grid.Side.TheVariants.{Down, Up}
use Rattle.tag_outline.specs.declared.outline.Element.{Element}
use Rattle.file_faults.specs.declared.outline.FileFault.{FileFault}
use Rattle.file_faults.specs.declared.outline.FileFault.TheVariants as fault
use Rattle.element_fields.specs.declared.quantity.Sort.{Sort}
use Rattle.element_fields.specs.declared.quantity.Sort.TheVariants.{Flow, Pressure}
use Rattle.element_fields.specs.Answers.{◌>>=◌, found_or, fold_of}
use Rattle.element_fields.specs.Lookup.{Placed, value_of, children}
use Rattle.element_fields.specs.Names.{label}
use Rattle.element_fields.specs.Quantities.{bound_in, bounds_in, default_of}
use Rattle.scn_reader.specs.declared.bounds.BoundWord.{BoundWord}
use Rattle.scn_reader.specs.declared.bounds.BoundWord.TheVariants.{Lower, Upper, Both}
use Rattle.scn_reader.specs.declared.bounds.NodeBounds.{NodeBounds}

abbrev pub bound_word : List ℕ → Option BoundWord
bound_word text =
    if bytes_eq text (codes "lower") then Some Lower
    else if bytes_eq text (codes "upper") then Some Upper
    else if bytes_eq text (codes "both") then Some Both
    else None

abbrev pub Pair : Type 0
Pair = ℤ × ℤ

-- the lower and the upper bound of a quantity, one of which may be the widest
abbrev pub bounds_by : BoundWord → Sort → List ℕ → Element → Result Pair FileFault
bounds_by Lower sort called q = bound_in sort Down called q >>= λ low. Ok (low, default_of sort Up)
bounds_by Upper sort called q = bound_in sort Up called q >>= λ high. Ok (default_of sort Down, high)
bounds_by Both sort called q = bounds_in sort called q

-- the checks of a quantity in their order: which bound, the value, the unit
unfoldable pub given_bounds : Sort → List ℕ → Element → Result Pair FileFault
given_bounds sort called q = do
  text ← found_or (fault.Missing called q.name) (value_of (codes "bound") q.attributes)
  word ← found_or (fault.BadWord called q.name) (bound_word text)
  bounds_by word sort called q

-- both of two lower and upper bounds
abbrev pub meet : Pair → Pair → Pair
meet a b = (int_max a.0 b.0, int_min a.1 b.1)

abbrev pub widest : NodeBounds
widest = record { flow = (default_of Flow Down, default_of Flow Up); pressure = (default_of Pressure Down, default_of Pressure Up) }

abbrev pub with_flow : NodeBounds → Pair → Result NodeBounds FileFault
with_flow s given = Ok (record { flow = meet s.flow given; pressure = s.pressure })

abbrev pub with_pressure : NodeBounds → Pair → Result NodeBounds FileFault
with_pressure s given = Ok (record { flow = s.flow; pressure = meet s.pressure given })

-- the bounds with those that a child of the node gives, if it is a flow or a pressure
abbrev pub with_child : List ℕ → NodeBounds → Element → Result NodeBounds FileFault
with_child called s q =
    if bytes_eq q.name (codes "flow") then given_bounds Flow called q >>= with_flow s
    else if bytes_eq q.name (codes "pressure") then given_bounds Pressure called q >>= with_pressure s
    else Ok s

-- the tightest of all bounds that the children of a node give, in file order
abbrev pub node_bounds : Element → List Element → Result NodeBounds FileFault
node_bounds e below = fold_of (λ s c. with_child (label e) s c.0) widest (children e.depth below)
