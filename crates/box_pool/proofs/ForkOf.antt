-- The group, the arc or the variable of a fork is one of the problem.
use Rattle.std.proofs.Common.{◌≡◌, ℕ, zero, suc, ◌<◌, Bool, true, false, length, refl, subst, ◌∙◌, arith, IsTrue}
use Rattle.std.specs.Prelude.{Option, Some, None, is_none, if◌then◌else◌, nat_lt}
use Rattle.std.proofs.lemmas.Bool.Decides.{nat_tests}
use Rattle.gas_model.specs.declared.rows.PartState.{PartState}
use Rattle.base_types.specs.declared.variables.Var.{Var}
use Rattle.base_types.specs.declared.variables.Var.TheVariants.{Flow, Square}
use Rattle.gas_model.specs.Rows.{Network}
use Rattle.gas_model.specs.Rulings.{pick_in}
use Rattle.gas_model.specs.Boxes.{Bounds, BoxFits, is_var, is_in_box}
use Rattle.gas_model.specs.Within.{IsWithin}
use Rattle.topo.specs.Shapes.{Layout, IsShapeOf}
use Rattle.topo.specs.States.{fixed_at}
use Rattle.box_split.specs.declared.forks.Fork.{Fork}
use Rattle.box_split.specs.declared.forks.Fork.TheVariants.{Group, Free, Least}
use Rattle.box_split.specs.Forks.{first, or_else, if_none, is_wide, is_other, at_turn, halved, after, round, start, fork_of}
use Rattle.box_split.proofs.Firsts.{found as first_found}
use Rattle.box_split.proofs.Listed.{split_vars}
use Rattle.box_split.proofs.Rounds.{begins_within}
use Rattle.box_pool.specs.Forks.{IsForkOf}

-- what is found passes, and lies below the count
pub found : (t : ℕ → Bool) (n k : ℕ) → first t n ≡ Some k → (k < n) × (t k ≡ true)
found t n k h = let z = first_found t n k h in (z.within, z.passes)

pub round_within : (n from k : ℕ) → from < n → k < n → round n from k < n
round_within n from k f h = grind (arith, nat_tests)

same_vars : (p : Network) (b : Bounds) → BoxFits p b → (v : Var) → IsTrue (is_in_box b v) → IsTrue (is_var p v)
same_vars p b fits (Flow a) h = let e = fits.flows in rw (← e) h
same_vars p b fits (Square n) h = let e = fits.squares in rw (← e) h

pub below : (a n : ℕ) → a < n → IsTrue (nat_lt a n)
below a n h = grind (arith, nat_tests)

module _ (p : Network) (part : PartState) (s : Layout) (b : Bounds) (within : IsWithin p) (shape : IsShapeOf p part s) (fits : BoxFits p b) (turn : ℕ) where
  split_var : (k : ℕ) → k < length s.split_list → IsTrue (is_var p (at_turn s.split_list turn k))
  split_var k h =
      let f = begins_within (length s.split_list) turn k h in
      same_vars p b fits (at_turn s.split_list turn k) (split_vars p part s b within shape fits (round (length s.split_list) (start (length s.split_list) turn) k) (round_within (length s.split_list) (start (length s.split_list) turn) k f h))

  by_square : (o : Option ℕ) → ((n : ℕ) → o ≡ Some n → n < length p.nodes) → IsForkOf p (if_none o (λ n. halved b (Square n) turn) Least)
  by_square None h = tt
  by_square (Some n) h = below n (length p.nodes) (h n refl)

  by_flow : (o : Option ℕ) → ((a : ℕ) → o ≡ Some a → a < length p.arcs) → (rest : Fork) → IsForkOf p rest → IsForkOf p (if_none o (λ a. halved b (Flow a) turn) rest)
  by_flow None h rest is = is
  by_flow (Some a) h rest is = below a (length p.arcs) (h a refl)

  by_split : (o : Option ℕ) → ((k : ℕ) → o ≡ Some k → k < length s.split_list) → (rest : Fork) → IsForkOf p rest
      → IsForkOf p (if_none o (λ k. halved b (at_turn s.split_list turn k) (after (length s.split_list) (round (length s.split_list) (start (length s.split_list) turn) k))) rest)
  by_split None h rest is = is
  by_split (Some k) h rest is = split_var k (h k refl)

  by_arc : (o : Option ℕ) → ((a : ℕ) → o ≡ Some a → a < length p.arcs) → (rest : Fork) → IsForkOf p rest → IsForkOf p (if_none o Free rest)
  by_arc None h rest is = is
  by_arc (Some a) h rest is = h a refl

  by_group : (o : Option ℕ) → ((k : ℕ) → o ≡ Some k → k < length p.groups) → (rest : Fork) → IsForkOf p rest → IsForkOf p (if_none o Group rest)
  by_group None h rest is = is
  by_group (Some k) h rest is = h k refl

  pub fork_is_of : IsForkOf p (fork_of p s.split_list part b turn)
  fork_is_of =
      by_group (first (λ k. is_none (pick_in part.picks k)) (length p.groups)) (λ k e. (found (λ k. is_none (pick_in part.picks k)) (length p.groups) k e).0) _
      (by_arc (first (λ a. is_none (fixed_at p part a)) (length p.arcs)) (λ k e. (found (λ a. is_none (fixed_at p part a)) (length p.arcs) k e).0) _
      (by_split (first (λ k. is_wide b (at_turn s.split_list turn k)) (length s.split_list)) (λ k e. (found (λ k. is_wide b (at_turn s.split_list turn k)) (length s.split_list) k e).0) _
      (by_flow (first (λ a. is_other s.split_list b (Flow a)) (length p.arcs)) (λ k e. (found (λ a. is_other s.split_list b (Flow a)) (length p.arcs) k e).0) _
      (by_square (first (λ n. is_other s.split_list b (Square n)) (length p.nodes)) (λ k e. (found (λ n. is_other s.split_list b (Square n)) (length p.nodes) k e).0)))))
