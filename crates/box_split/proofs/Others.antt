-- Where all variables of a list are narrow, the others are all that are wide.
use Rattle.std.proofs.Common.{◌≡◌, ℕ, suc, ◌<◌, ◌==◌, ◌&&◌, ◌||◌, refl, sym, ap, ◌∙◌, arith, Bool, true, false, not, List, [], ◌∷◌, length, get_or}
use Rattle.std.specs.Prelude.{Option, None, Some, is_none}
use Rattle.std.specs.List.{list_any}
use Rattle.std.proofs.lemmas.Bool.{eqb-true}
use Rattle.base_types.specs.declared.variables.Var.{Var}
use Rattle.base_types.specs.declared.variables.Var.TheVariants.{Flow, Square}
use Rattle.gas_model.specs.declared.rows.PartState.{PartState}
use Rattle.gas_model.specs.Rows.{Network}
use Rattle.gas_model.specs.Boxes.{Bounds}
use Rattle.gas_model.specs.Rulings.{pick_in}
use Rattle.topo.specs.States.{fixed_at}
use Rattle.tree_rules.specs.Branches.{same_var}
use Rattle.box_split.specs.Forks.{first, fork_of, is_wide, is_other, at_turn, start, no_var}
use Rattle.box_split.specs.Parts.{halving}
use Rattle.box_split.proofs.Firsts.{all_false, first_same}
use Rattle.box_split.proofs.Rounds.{begins_within, came_round}

pub var_of : (v w : Var) → same_var v w ≡ true → v ≡ w
var_of (Flow a) (Flow b) e = ap Flow (eqb-true a b e)
var_of (Square a) (Square b) e = ap Square (eqb-true a b e)
var_of (Flow a) (Square b) e = absurd cc
var_of (Square a) (Flow b) e = absurd cc

-- a variable of a list stands at some place of it
pub place_in : (v : Var) (xs : List Var) → list_any (same_var v) xs ≡ true → (i : ℕ) × (i < length xs) × (get_or xs i no_var ≡ v)
place_in v [] e = absurd cc
place_in v (x ∷ xs) e = by (same_var v x) refl e (place_in v xs)
  where
    by : (c : Bool) → same_var v x ≡ c → (c || list_any (same_var v) xs) ≡ true
        → (list_any (same_var v) xs ≡ true → (i : ℕ) × (i < length xs) × (get_or xs i no_var ≡ v)) → (i : ℕ) × (i < suc (length xs)) × (get_or (x ∷ xs) i no_var ≡ v)
    by true t h rest = (0, omega arith, sym (var_of v x t))
    by false t h rest = let at = rest h in (suc at.0, (let l = at.1 in omega arith), at.2)

module _ (split : List Var) (b : Bounds) (turn : ℕ) (narrow : first (λ k. is_wide b (at_turn split turn k)) (length split) ≡ None) where
  -- outside the list, or narrow
  other_wide : (v : Var) → is_other split b v ≡ is_wide b v
  other_wide v = by (list_any (same_var v) split) refl
    where
      by : (c : Bool) → list_any (same_var v) split ≡ c → (is_wide b v && not c) ≡ is_wide b v
      by true e =
          let at = place_in v split e in
          let k = came_round (length split) (start (length split) turn) at.0 (begins_within (length split) turn at.0 at.1) at.1 in
          let f = all_false (λ k. is_wide b (at_turn split turn k)) (length split) narrow k.0 k.1 in
          let none : is_wide b v ≡ false = ap (is_wide b) (sym at.2) ∙ ap (λ (i : ℕ). is_wide b (get_or split i no_var)) (sym k.2) ∙ f in
          rw none refl
      by false e = kept (is_wide b v)
        where
          kept : (w : Bool) → (w && not false) ≡ w
          kept true = refl
          kept false = refl

-- the branch by a variable is the last part of the branch
pub fork_halving : (p : Network) (split : List Var) (part : PartState) (b : Bounds) (turn : ℕ)
    → first (λ k. is_none (pick_in part.picks k)) (length p.groups) ≡ None → first (λ a. is_none (fixed_at p part a)) (length p.arcs) ≡ None
    → halving p split b turn ≡ fork_of p split part b turn
fork_halving p split part b turn picked fixed = by (first (λ k. is_wide b (at_turn split turn k)) (length split)) refl
  where
    by : (o : Option ℕ) → first (λ k. is_wide b (at_turn split turn k)) (length split) ≡ o → halving p split b turn ≡ fork_of p split part b turn
    by None e =
        let flows = first_same (λ a. is_other split b (Flow a)) (λ a. is_wide b (Flow a)) (length p.arcs) (λ a h. other_wide split b turn e (Flow a)) in
        let squares = first_same (λ n. is_other split b (Square n)) (λ n. is_wide b (Square n)) (length p.nodes) (λ n h. other_wide split b turn e (Square n)) in
        rw (picked, fixed, e, flows, squares) refl
    by (Some k) e = rw (picked, fixed, e) refl
