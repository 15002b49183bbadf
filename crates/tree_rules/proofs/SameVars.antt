-- Variables that are the same, and those of a list.
use Rattle.std.proofs.Common.{◌≡◌, ℕ, suc, ◌<◌, refl, sym, ap, arith, Bool, true, false, List, [], ◌∷◌, length, get_or, eq-eqb}
use Rattle.std.specs.Prelude.{◌||◌}
use Rattle.std.specs.List.{list_any}
use borrow.Author.Tests.{eqb-true}
use Rattle.base_types.specs.declared.variables.Var.{Var}
use Rattle.base_types.specs.declared.variables.Var.TheVariants.{Flow, Square}
use Rattle.tree_rules.specs.Branches.{same_var}

pub var_is : (v w : Var) → same_var v w ≡ true → v ≡ w
var_is (Flow i) (Flow j) h = ap Flow (eqb-true i j h)
var_is (Flow i) (Square j) h = absurd cc
var_is (Square i) (Flow j) h = absurd cc
var_is (Square i) (Square j) h = ap Square (eqb-true i j h)

pub var_self : (v : Var) → same_var v v ≡ true
var_self (Flow a) = eq-eqb a a refl
var_self (Square n) = eq-eqb n n refl

-- a variable of a list stands at some place of it
pub place_in : (v none : Var) (xs : List Var) → list_any (same_var v) xs ≡ true → (i : ℕ) × (i < length xs) × (get_or xs i none ≡ v)
place_in v none [] e = absurd cc
place_in v none (x ∷ xs) e = by (same_var v x) refl e (place_in v none xs)
  where
    by : (c : Bool) → same_var v x ≡ c → (c || list_any (same_var v) xs) ≡ true
        → (list_any (same_var v) xs ≡ true → (i : ℕ) × (i < length xs) × (get_or xs i none ≡ v)) → (i : ℕ) × (i < suc (length xs)) × (get_or (x ∷ xs) i none ≡ v)
    by true t h rest = (0, omega arith, sym (var_is v x t))
    by false t h rest = let at = rest h in (suc at.0, (let l = at.1 in omega arith), at.2)
