-- Within which limits the numbers of a law, the ends of an arc and the values of its variables lie; and the law of a kind in a
-- state.
use Rattle.std.specs.Prelude.{◌≡◌, ℕ, ℤ, Some, slice_get, IsTrue}
use Rattle.gas_model.specs.declared.rows.ArcRow.{ArcRow}
use Rattle.gas_model.specs.declared.rows.PartState.{PartState}
use Rattle.base_types.specs.declared.states.ArcState.{ArcState}
use Rattle.base_types.specs.declared.states.ArcState.TheVariants.{Opened, Shut, Active, Bypass}
use Rattle.gas_model.specs.BoxLimits.{IsScale, AreFlowEnds, AreSquareEnds}
use Rattle.base_types.specs.Numbers.{is_difference, is_ratio_part}
use Rattle.gas_model.specs.Laws.{is_pipe_within}
use Rattle.gas_model.specs.declared.law_forms.LawForm.{LawForm}
use Rattle.gas_model.specs.declared.law_forms.LawForm.TheVariants.{Drags, Equals, Shuts, Loses, Reduces, Raises, Never}
use Rattle.integer_laws.specs.Sizes.{IsWithin}
use Rattle.element_laws.specs.Sizes.{most_flow, is_wide_square, AreSafeFlows, AreSafeSquares}
use Rattle.gas_model.specs.Rows.{Network}
use Rattle.tree_rules.specs.Rules.{fixed_form}
use Rattle.tree_rules.specs.declared.arc_vars.ArcEnds.{ArcEnds}
use Rattle.tree_rules.specs.declared.arc_vars.ArcVar.{ArcVar}
use Rattle.tree_rules.specs.declared.arc_vars.ArcVar.TheVariants.{OfFlow, OfFrom, OfTo}

-- sizes within which the formulas of an arc fit
pub record AreSafeSides (e : ArcEnds) : Type 0 where
  pub q : AreSafeFlows e.q
  pub u : AreSafeSquares e.u
  pub v : AreSafeSquares e.v

-- the ends of the variables of an arc in a box
pub record AreBoxSides (K : ℤ) (e : ArcEnds) : Type 0 where
  pub scale : IsScale K
  pub q : AreFlowEnds K e.q
  pub u : AreSquareEnds K e.u
  pub v : AreSquareEnds K e.v

abbrev pub IsSafeAt : ArcVar → ℤ → Type 0
IsSafeAt OfFlow C = IsWithin most_flow C
IsSafeAt OfFrom C = IsTrue (is_wide_square C)
IsSafeAt OfTo C = IsTrue (is_wide_square C)

-- the law of a kind that has one state, and of one that may be active
abbrev pub opened_form : LawForm → ArcState → LawForm
opened_form form Opened = form
opened_form form state = Never

abbrev pub active_form : LawForm → ArcState → LawForm
active_form form Active = form
active_form form Bypass = Equals
active_form form Shut = Shuts
active_form form Opened = Never

-- the numbers of a law are within their limits
abbrev pub IsFormWithin : LawForm → Type 0
IsFormWithin (Drags law) = IsTrue (is_pipe_within law)
IsFormWithin (Loses low high) = IsTrue (is_difference low) × IsTrue (is_difference high)
IsFormWithin (Reduces in_min out_max red_min red_max) =
    (IsTrue (is_difference in_min) × IsTrue (is_difference out_max)) × (IsTrue (is_difference red_min) × IsTrue (is_difference red_max))
IsFormWithin (Raises in_min out_max ratio_num ratio_den rise_max) =
    (IsTrue (is_difference in_min) × IsTrue (is_difference out_max)) × (IsTrue (is_ratio_part ratio_num) × IsTrue (is_ratio_part ratio_den)) × IsTrue (is_difference rise_max)
IsFormWithin form = Unit {0}

-- the law of the arc a, whose state the part state fixes
abbrev pub IsLawOf : Network → PartState → ℕ → LawForm → Type 0
IsLawOf p part a form = (row : ArcRow) → slice_get p.arcs a ≡ Some row → fixed_form p part a row ≡ Some form
