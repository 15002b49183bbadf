-- The first place at which a test fails, found one place at a time.
use Rattle.std.proofs.Common.{◌≡◌, ℕ, ◌<◌, refl, sym, ap, ◌∙◌, arith, inl, inr, List, length, get_or, Bool, true, Some}
use Rattle.std.specs.Prelude.{slice_get}
use Rattle.std.specs.Option.{option_map_or}
use Rattle.std.proofs.lemmas.Option.{slice_get_read, slice_get_cases}
use Rattle.element_laws.specs.Failing.{passes_at}

-- the test at a place, from the row that was read there
pub passes_read : {X : Type 0} (test : X → Bool) (rows : List X) (i : ℕ) (row : X) → i < length rows → row ≡ get_or rows i row → passes_at test rows i ≡ test row
passes_read test rows i row within is = ap (λ o. option_map_or test o true) (slice_get_read rows (length rows) i row (ap length refl) within is)

-- an answer that is the test of the row at a place is the test at the place
pub passes_row : {X : Type 0} (test : X → Bool) (rows : List X) (i : ℕ) (answer : Bool) → i < length rows → ((row : X) → slice_get rows i ≡ Some row → answer ≡ test row) → answer ≡ passes_at test rows i
passes_row test rows i answer within is = elim (slice_get_cases rows i).1 [
  | inl (row, _, here, _) ↦ is row here ∙ ap (λ o. option_map_or test o true) (sym here)
  | inr past ↦ absurd (omega (arith, past.0, within))
]
