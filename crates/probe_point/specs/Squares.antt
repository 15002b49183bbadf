-- The squares that a probe gives from the roots outward.
use Rattle.std.specs.Prelude.{◌≡◌, ℕ, ◌<◌, ◌==◌, Bool, List, length, slice_index_or, if◌then◌else◌, ℤ, pos, ◌+ℤ◌, ◌-ℤ◌, ◌*ℤ◌, int_lt, int_le, ◌≤ℤ◌, IsTrue, unsigned_abs}
use Rattle.std.specs.Int.{int_div_euclid}
use Rattle.std.specs.Ordering.{int_eq}
use Rattle.gas_units.specs.Rounds.{IsRootDown}
use Rattle.gas_model.specs.declared.rows.ArcRow.{ArcRow}
use Rattle.base_types.specs.declared.states.ArcState.{ArcState}
use Rattle.gas_model.specs.declared.rows.Drag.{Drag}
use Rattle.gas_model.specs.declared.law_forms.PipeLaw.{PipeLaw}
use Rattle.gas_model.specs.declared.rows.Ends.{Ends}
use Rattle.gas_model.specs.Limits.{is_kind_within}
use Rattle.base_types.specs.Numbers.{is_square}
use Rattle.gas_model.specs.Curves.{square}
use Rattle.gas_model.specs.declared.law_forms.LawForm.{LawForm}
use Rattle.gas_model.specs.declared.law_forms.LawForm.TheVariants.{Drags, Loses, Reduces, Raises}
use Rattle.gas_model.specs.Laws.{form_of}
use Rattle.gas_model.specs.Near.{number_at}
use Rattle.gas_model.specs.Points.{state_at}
use Rattle.topo.specs.Graphs.{graph_of, no_arc}
use Rattle.topo.specs.Walks.{Step, step_at, far_of}
use Rattle.box_ends.specs.Middle.{middle}
use Rattle.probe_point.specs.Probes.{nearest, box_at}

-- what the squares fall by at the flow q by the middle of a resistance, rounded down
abbrev pub middle_drop : Drag → ℤ → ℤ
middle_drop law q = int_div_euclid ((law.lo +ℤ law.hi) *ℤ square q) (pos 2 *ℤ law.den)

-- whether the flow leads from the near end to the far end, where the near end is the arc's first one or isn't
abbrev pub leads_out : Bool → ℤ → Bool
leads_out at_from q = if at_from then int_le (pos 0) q else int_lt q (pos 0)

-- the square behind a resistance, or before it
abbrev pub dragged : PipeLaw → Bool → (q x : ℤ) → ℤ
dragged law at_from q x = if leads_out at_from q then x -ℤ middle_drop law.drag q else x +ℤ middle_drop law.drag q

-- the square behind a constant loss, or before it, where r is the root of the square x: none is below 0
abbrev pub lossy : ℤ → Bool → (q r x : ℤ) → ℤ
lossy low at_from q r x =
    if int_eq q (pos 0) then x
    else if leads_out at_from q then (if int_lt r low then pos 0 else x -ℤ pos 2 *ℤ (low *ℤ r) +ℤ square low)
    else x +ℤ pos 2 *ℤ (low *ℤ r) +ℤ square low

-- y is the square that the far end gets from the near end's square x, where q is the arc's flow and e the far end's box
abbrev pub IsGiven : LawForm → Bool → Ends → (q x y : ℤ) → Type 0
IsGiven (Drags law) at_from e q x y = y ≡ dragged law at_from q x
IsGiven (Loses low high) at_from e q x y = (r : ℕ) × IsRootDown (unsigned_abs x) r × (y ≡ lossy low at_from q (pos r) x)
IsGiven (Reduces in_min out_max red_min red_max) at_from e q x y = y ≡ middle e
IsGiven (Raises in_min out_max ratio_num ratio_den rise_max) at_from e q x y = y ≡ middle e
IsGiven form at_from e q x y = y ≡ x

-- z is the value of the far end's box that is nearest to it
abbrev pub IsFarSquare : LawForm → Bool → Ends → (q x z : ℤ) → Type 0
IsFarSquare form at_from e q x z = (y : ℤ) × IsGiven form at_from e q x y × (z ≡ nearest e y)

-- z is the square of the node v, the far end of the arc a from the near end
abbrev pub IsStepSquare : List ArcRow → List ArcState → (ℕ → Ends) → (q s : ℕ → ℤ) → (a near v : ℕ) → ℤ → Type 0
IsStepSquare arcs states box q s a near v z =
    IsFarSquare (form_of (slice_index_or arcs a no_arc).kind (state_at states a)) ((graph_of arcs).from a == near) (box v) (q a) (s near) z

-- the far end of each step has its square
abbrev pub HasSquares : List ArcRow → List ArcState → (ℕ → Ends) → (ℕ → ℤ) → List Step → (ℕ → ℤ) → Type 0
HasSquares arcs states box q walk s =
    (i : ℕ) → i < length walk → let e = step_at walk i in let v = far_of (graph_of arcs) e in
    IsStepSquare arcs states box q s e.0 e.1 v (s v)

-- the ends are squares of pressures, and the lower one isn't above the upper one
pub record AreSquareBoxes (boxes : List Ends) : Type 0 where
  pub low : (n : ℕ) → n < length boxes → IsTrue (is_square (box_at boxes n).lo)
  pub high : (n : ℕ) → n < length boxes → IsTrue (is_square (box_at boxes n).hi)
  pub order : (n : ℕ) → n < length boxes → (box_at boxes n).lo ≤ℤ (box_at boxes n).hi

abbrev pub AreSquares : List ℤ → Type 0
AreSquares squares = (n : ℕ) → n < length squares → IsTrue (is_square (number_at squares n))

-- the numbers of the arcs' laws are within their limits
abbrev pub AreKindsWithin : List ArcRow → Type 0
AreKindsWithin arcs = (a : ℕ) → a < length arcs → IsTrue (is_kind_within (slice_index_or arcs a no_arc).kind)

-- nodes that are no far end of a step keep their squares
abbrev pub KeepsNearSquares : List ArcRow → List Step → (ℕ → ℤ) → (ℕ → ℤ) → Type 0
KeepsNearSquares arcs walk s t = (v : ℕ) → ((i : ℕ) → i < length walk → far_of (graph_of arcs) (step_at walk i) ≡ v → ⊥) → t v ≡ s v
