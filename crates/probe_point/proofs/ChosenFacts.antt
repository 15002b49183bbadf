-- The chosen states, one after the other.
use Rattle.std.proofs.Common.{◌≡◌, ℕ, ◌<◌, ◌+◌, inl, inr, List, [], ◌∷◌, ◌++◌, length, sym, ap, ◌∙◌, arith}
use Rattle.std.proofs.lemmas.Bool.{cases_eq}
use Rattle.std.proofs.lemmas.List.{get_or_push, get_or_append_left}
use Rattle.base_types.specs.declared.states.ArcState.{ArcState}
use Rattle.base_types.specs.declared.states.ArcState.TheVariants.{Opened}
use Rattle.gas_model.specs.Points.{state_at}

-- one more state
pub state_push : (states : List ArcState) (s : ArcState) (n : ℕ) (f : ℕ → ArcState) → length states ≡ n → ((a : ℕ) → a < n → state_at states a ≡ f a) → s ≡ f n → (a : ℕ) → a < n + 1 → state_at (states ++ s ∷ []) a ≡ f a
state_push states s n f e so_far here a lt = elim (cases_eq a n) [
  | inl same ↦ ap (state_at (states ++ s ∷ [])) same ∙ get_or_push states s Opened n e ∙ here ∙ ap f (sym same)
  | inr other ↦ get_or_append_left states (s ∷ []) Opened a (omega arith) ∙ so_far a (omega arith)
]
