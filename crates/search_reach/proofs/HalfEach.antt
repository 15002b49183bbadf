-- Two equal pipes that share a flow of 1.
use Rattle.std.proofs.Common.{◌≡◌, ℕ, zero, suc, refl, subst, arith, pos, ◌≤ℤ◌, List, [], ◌∷◌, Some, IsTrue}
use Rattle.std.specs.Prelude.{slice_get, codes}
use borrow.Author.Tests.{ltb-true}
use Rattle.integer_laws.proofs.Ring.{linear}
use Rattle.base_types.specs.declared.variables.Var.{Var}
use Rattle.base_types.specs.declared.variables.Var.TheVariants.{Flow, Square}
use Rattle.base_types.specs.declared.states.ArcState.{ArcState}
use Rattle.base_types.specs.declared.states.ArcState.TheVariants.{Opened}
use Rattle.gas_model.specs.declared.rows.ArcRow.{ArcRow}
use Rattle.gas_model.specs.Boxes.{Contains}
use Rattle.gas_model.specs.Choices.{IsListed, may_be}
use Rattle.gas_model.specs.Points.{Meets, keeps_flow, keeps_square, balances, meets_arc, state_at}
use Rattle.search_reach.specs.SharedFlow.{plain_pipe, equal_pipes, half_each, quarters, SharedFlow}
use Rattle.search_reach.specs.Widths.{width_in}

-- what holds of both items of a list of two
of_both : {A : Type 0} (P : ℕ → A → Type 0) (x y : A) → P 0 x → P 1 y → (n : ℕ) (z : A) → slice_get (x ∷ y ∷ []) n ≡ Some z → P n z
of_both P x y h k zero z e = let same : x ≡ z = cc in subst (P 0) same h
of_both P x y h k (suc zero) z e = let same : y ≡ z = cc in subst (P 1) same k
of_both P x y h k (suc (suc n)) z e = absurd cc

narrow : (v : Var) → width_in half_each v ≤ℤ pos 1
narrow (Flow zero) = omega (arith, linear)
narrow (Flow (suc zero)) = omega (arith, linear)
narrow (Flow (suc (suc a))) = omega (arith, linear)
narrow (Square zero) = omega (arith, linear)
narrow (Square (suc zero)) = omega (arith, linear)
narrow (Square (suc (suc n))) = omega (arith, linear)

abbrev opened : List ArcState
opened = Opened ∷ Opened ∷ []

abbrev first_pipe : ArcRow
first_pipe = plain_pipe (codes "p")

abbrev second_pipe : ArcRow
second_pipe = plain_pipe (codes "r")

may_be_open : (a : ℕ) (row : ArcRow) → slice_get equal_pipes.arcs a ≡ Some row → (state : ArcState) → slice_get opened a ≡ Some state → IsTrue (may_be equal_pipes [] a row state)
may_be_open =
    of_both (λ a row. (state : ArcState) → slice_get opened a ≡ Some state → IsTrue (may_be equal_pipes [] a row state)) first_pipe second_pipe
    (λ state e. let same : Opened ≡ state = cc in subst (λ s. IsTrue (may_be equal_pipes [] 0 first_pipe s)) same refl)
    (λ state e. let same : Opened ≡ state = cc in subst (λ s. IsTrue (may_be equal_pipes [] 1 second_pipe s)) same refl)

listed : IsListed equal_pipes [] opened
listed = record {
  picked = record { one_each = refl; within = λ k g j e f. absurd cc };
  one_each = refl;
  allowed = λ a row state at named. may_be_open a row at state named;
}

none_named : (a : ℕ) (state : ArcState) → slice_get half_each.part.states a ≡ Some (Some state) → slice_get opened a ≡ Some state
none_named zero state e = absurd cc
none_named (suc zero) state e = absurd cc
none_named (suc (suc a)) state e = absurd cc

inside : Contains half_each.scale half_each.bounds quarters
inside (Flow zero) h = record { above = omega (arith, linear); below = omega (arith, linear) }
inside (Flow (suc zero)) h = record { above = omega (arith, linear); below = omega (arith, linear) }
inside (Flow (suc (suc a))) h = absurd (omega (arith, ltb-true (suc (suc a)) 2 h))
inside (Square zero) h = record { above = omega (arith, linear); below = omega (arith, linear) }
inside (Square (suc zero)) h = record { above = omega (arith, linear); below = omega (arith, linear) }
inside (Square (suc (suc n))) h = absurd (omega (arith, ltb-true (suc (suc n)) 2 h))

meets : Meets equal_pipes opened quarters
meets = record {
  flows = of_both (λ a row. IsTrue (keeps_flow row quarters.d (quarters.flow a))) _ _ refl refl;
  squares = of_both (λ n node. IsTrue (keeps_square node quarters.d (quarters.square n))) _ _ refl refl;
  balances = of_both (λ n node. IsTrue (balances node quarters.d quarters.flow n equal_pipes.arcs)) _ _ refl refl;
  laws = of_both (λ a row. IsTrue (meets_arc row (state_at opened a) quarters.d (quarters.flow a) quarters.square)) _ _ refl refl;
}

pub half_each_is_left : SharedFlow
half_each_is_left = (
  record { counts = refl; narrow = narrow },
  record { listed = listed; agrees = record { picked = λ k j e. absurd cc; fixed = none_named }; inside = inside; meets = meets },
)
