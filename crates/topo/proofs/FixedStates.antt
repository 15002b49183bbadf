-- The fixed states of all arcs, in a list.
use Rattle.std.proofs.Common.{◌≡◌, ℕ, ◌<◌, ◌+◌, inl, inr, sym, ap, ◌∙◌, arith, not, List, [], ◌∷◌, ◌++◌, length, Bool}
use Rattle.std.specs.Prelude.{Option, Some, None, slice_get, option_and_then}
use Rattle.std.proofs.Math.Path.{fun_ext}
use Rattle.std.proofs.lemmas.Bool.{cases_eq, cases_lt}
use Rattle.std.proofs.lemmas.List.{get_or_push, get_or_append_left, get_or_past}
use Rattle.std.proofs.lemmas.Option.{slice_get-get_or, slice_get_past}
use Rattle.gas_model.specs.declared.rows.ArcRow.{ArcRow}
use Rattle.base_types.specs.declared.states.ArcState.{ArcState}
use Rattle.gas_model.specs.declared.rows.PartState.{PartState}
use Rattle.gas_model.specs.Rows.{Network}
use Rattle.gas_model.specs.Choices.{fixed_state}
use Rattle.topo.specs.Graphs.{no_arc}
use Rattle.gas_model.specs.Laws.{is_shut}
use Rattle.topo.specs.States.{fixed_at, state_in, is_there, is_kept}

-- the state that is fixed for the row of an arc
pub fixed_at_row : (p : Network) (part : PartState) (a : ℕ) (r : Option ArcState) → a < length p.arcs → ((row : ArcRow) → slice_get p.arcs a ≡ Some row → r ≡ fixed_state p part a row) → r ≡ fixed_at p part a
fixed_at_row p part a r h f = let here = slice_get-get_or p.arcs a no_arc h in f _ here ∙ sym (ap (option_and_then (fixed_state p part a)) here)

-- one more state
pub states_push : (p : Network) (part : PartState) (states : List (Option ArcState)) (r : Option ArcState) (a k : ℕ) → length states ≡ a → ((k : ℕ) → k < a → state_in states k ≡ fixed_at p part k) → r ≡ fixed_at p part a → k < a + 1 → state_in (states ++ r ∷ []) k ≡ fixed_at p part k
states_push p part states r a k e f here h = elim (cases_eq k a) [
  | inl e1 ↦ ap (state_in (states ++ r ∷ [])) e1 ∙ get_or_push states r None a e ∙ here ∙ ap (fixed_at p part) (sym e1)
  | inr e1 ↦ get_or_append_left states (r ∷ []) None k (omega arith) ∙ f k (omega arith)
]

-- the list has the states of all arcs, and none beyond
pub states_are : (p : Network) (part : PartState) (states : List (Option ArcState)) → length states ≡ length p.arcs → ((a : ℕ) → a < length p.arcs → state_in states a ≡ fixed_at p part a) → state_in states ≡ fixed_at p part
states_are p part states e f = fun_ext (λ (a : ℕ). elim (cases_lt a (length p.arcs)) [
  | inl h ↦ f a h
  | inr h ↦ get_or_past states a None (omega arith) ∙ sym (ap (option_and_then (fixed_state p part a)) (slice_get_past p.arcs a (omega arith)))
])

pub kept_there : (p : Network) (part : PartState) (states : List (Option ArcState)) → state_in states ≡ fixed_at p part → is_kept states ≡ is_there p part
kept_there p part states e = let f : (ℕ → Option ArcState) → ℕ → Bool = λ s a. not (is_shut (s a)) in ap f e
