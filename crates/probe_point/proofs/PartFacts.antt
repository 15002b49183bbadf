-- What it says of two part states that tests find them the same.
use Rattle.std.proofs.Common.{◌≡◌, ℕ, Bool, refl, ap, ◌∙◌, Option, Some, None, List}
use Rattle.std.specs.Bool.{Decides}
use Rattle.std.specs.Option.{option_eq}
use Rattle.base_types.specs.declared.states.ArcState.{ArcState}
use Rattle.gas_model.specs.declared.rows.PartState.{PartState}

of_some : {T : Type 0} (x y : T) → Some x ≡ Some y → x ≡ y
of_some x y e = cc

-- where the test of items decides, so does that of options
pub option_decides : {T : Type 0} {E : T → T → Bool} → ((a b : T) → Decides (E a b) (a ≡ b)) → (x y : Option T) → Decides (option_eq E x y) (x ≡ y)
option_decides d None None = ((λ t. refl), λ e. refl)
option_decides d None (Some y) = ((λ t. absurd cc), λ e. absurd cc)
option_decides d (Some x) None = ((λ t. absurd cc), λ e. absurd cc)
option_decides d (Some x) (Some y) = ((λ t. ap Some ((d x y).0 t)), λ e. (d x y).1 (of_some x y e))

-- a part state is its picks and its states
pub same_part : (a b : PartState) → a.picks ≡ b.picks → a.states ≡ b.states → a ≡ b
same_part a b e f = ap (λ (xs : List (Option ℕ)). record { picks = xs; states = a.states }) e ∙ ap (λ (xs : List (Option ArcState)). record { picks = b.picks; states = xs }) f
