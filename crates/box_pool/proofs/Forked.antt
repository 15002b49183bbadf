-- Each fork of a box is expected, and its children can be made.
use Rattle.std.proofs.Common.{◌≡◌, ◌≢◌, ℕ, ◌<◌, true, false, not, length, refl, sym, subst, arith, IsTrue}
use Rattle.std.specs.Prelude.{Option, Some, None, is_none}
use Rattle.std.specs.List.{list_any}
use Rattle.std.proofs.lemmas.Bool.{and_parts}
use Rattle.base_types.specs.declared.variables.Var.{Var}
use Rattle.base_types.specs.declared.variables.Var.TheVariants.{Flow, Square}
use Rattle.gas_model.specs.Rows.{Network}
use Rattle.gas_model.specs.Rulings.{pick_in}
use Rattle.gas_model.specs.Boxes.{BoxFits, is_var, is_in_box}
use Rattle.gas_model.specs.Choices.{PartFits}
use Rattle.gas_model.specs.Within.{IsWithin}
use Rattle.topo.specs.Shapes.{Layout, IsShapeOf}
use Rattle.topo.specs.States.{fixed_at}
use Rattle.tree_rules.specs.Rules.{PartBox}
use Rattle.tree_rules.specs.Branches.{same_var}
use Rattle.box_split.specs.declared.forks.Fork.{Fork}
use Rattle.box_split.specs.declared.forks.Fork.TheVariants.{Group, Free, Least}
use Rattle.box_split.specs.Forks.{first, if_none, is_wide, is_other, at_turn, halved, after, round, start, fork_of}
use Rattle.box_split.proofs.Firsts.{all_false}
use Rattle.box_split.proofs.Listed.{split_vars}
use Rattle.box_split.proofs.Rounds.{begins_within}
use Rattle.box_pool.specs.Expected.{IsExpected, CanBegin, ForksAreExpected}
use Rattle.box_pool.proofs.ForkOf.{found, round_within, below}
use Rattle.box_pool.proofs.ForkKids.{group_expected, group_begins, arc_expected, arc_begins, half_expected, half_begins}

-- what is owed of a fork, but for `Least`
abbrev Owed : Network → PartBox → Fork → Type 0
Owed p b fork = fork ≢ Least → IsExpected p b fork × CanBegin p b.part b.bounds fork

module _ (p : Network) (b : PartBox) (s : Layout) (within : IsWithin p) (part : PartFits p b.part) (fits : BoxFits p b.bounds) (shape : IsShapeOf p b.part s) (turn : ℕ) where
  boxed : (v : Var) → IsTrue (is_in_box b.bounds v) → IsTrue (is_var p v)
  boxed (Flow a) h = let e = fits.flows in rw (← e) h
  boxed (Square n) h = let e = fits.squares in rw (← e) h

  of_var : (v : Var) (next : ℕ) → IsTrue (is_in_box b.bounds v) → is_wide b.bounds v ≡ true → Owed p b (halved b.bounds v next)
  of_var v next var wide ne = (half_expected p b v next (boxed v var) wide, half_begins p b.part b.bounds v next var wide)

  none_left : Owed p b Least
  none_left ne = absurd (ne refl)

  by_square : (o : Option ℕ) → ((n : ℕ) → o ≡ Some n → (n < length p.nodes) × (is_other s.split_list b.bounds (Square n) ≡ true)) → Owed p b (if_none o (λ n. halved b.bounds (Square n) turn) Least)
  by_square None h = none_left
  by_square (Some n) h =
      let z = h n refl in
      of_var (Square n) turn (below n (length b.bounds.squares) (let a = fits.squares in let c = z.0 in omega arith)) (and_parts (is_wide b.bounds (Square n)) (not (list_any (same_var (Square n)) s.split_list)) z.1).0

  by_flow : (o : Option ℕ) → ((a : ℕ) → o ≡ Some a → (a < length p.arcs) × (is_other s.split_list b.bounds (Flow a) ≡ true)) → (rest : Fork) → Owed p b rest → Owed p b (if_none o (λ a. halved b.bounds (Flow a) turn) rest)
  by_flow None h rest is = is
  by_flow (Some n) h rest is =
      let z = h n refl in
      of_var (Flow n) turn (below n (length b.bounds.flows) (let a = fits.flows in let c = z.0 in omega arith)) (and_parts (is_wide b.bounds (Flow n)) (not (list_any (same_var (Flow n)) s.split_list)) z.1).0

  split_var : (k : ℕ) → k < length s.split_list → IsTrue (is_in_box b.bounds (at_turn s.split_list turn k))
  split_var k h =
      let f = begins_within (length s.split_list) turn k h in
      split_vars p b.part s b.bounds within shape fits (round (length s.split_list) (start (length s.split_list) turn) k) (round_within (length s.split_list) (start (length s.split_list) turn) k f h)

  by_split : (o : Option ℕ) → ((k : ℕ) → o ≡ Some k → (k < length s.split_list) × (is_wide b.bounds (at_turn s.split_list turn k) ≡ true)) → (rest : Fork) → Owed p b rest
      → Owed p b (if_none o (λ k. halved b.bounds (at_turn s.split_list turn k) (after (length s.split_list) (round (length s.split_list) (start (length s.split_list) turn) k))) rest)
  by_split None h rest is = is
  by_split (Some k) h rest is = let z = h k refl in of_var (at_turn s.split_list turn k) (after (length s.split_list) (round (length s.split_list) (start (length s.split_list) turn) k)) (split_var k z.0) z.1

  by_arc : (o : Option ℕ) → ((a : ℕ) → o ≡ Some a → (a < length p.arcs) × (is_none (fixed_at p b.part a) ≡ true)) → ((k : ℕ) → k < length p.groups → is_none (pick_in b.part.picks k) ≡ false) → (rest : Fork) → Owed p b rest → Owed p b (if_none o Free rest)
  by_arc None h picked rest is = is
  by_arc (Some a) h picked rest is = λ ne. let z = h a refl in (arc_expected p b a z.0 z.1 picked, arc_begins p b.part b.bounds a part z.0)

  by_group : (o : Option ℕ) → first (λ k. is_none (pick_in b.part.picks k)) (length p.groups) ≡ o → (rest : Fork) → (((k : ℕ) → k < length p.groups → is_none (pick_in b.part.picks k) ≡ false) → Owed p b rest) → Owed p b (if_none o Group rest)
  by_group None e rest is = is (λ k lt. all_false (λ k. is_none (pick_in b.part.picks k)) (length p.groups) e k lt)
  by_group (Some k) e rest is = λ ne. let z = found (λ k. is_none (pick_in b.part.picks k)) (length p.groups) k e in (group_expected p b k z.0 z.1, group_begins p b.part b.bounds k part z.0)

  owed : Owed p b (fork_of p s.split_list b.part b.bounds turn)
  owed =
      by_group (first (λ k. is_none (pick_in b.part.picks k)) (length p.groups)) refl _
      (λ picked. by_arc (first (λ a. is_none (fixed_at p b.part a)) (length p.arcs)) (λ k e. found (λ a. is_none (fixed_at p b.part a)) (length p.arcs) k e) picked _
      (by_split (first (λ k. is_wide b.bounds (at_turn s.split_list turn k)) (length s.split_list)) (λ k e. found (λ k. is_wide b.bounds (at_turn s.split_list turn k)) (length s.split_list) k e) _
      (by_flow (first (λ a. is_other s.split_list b.bounds (Flow a)) (length p.arcs)) (λ k e. found (λ a. is_other s.split_list b.bounds (Flow a)) (length p.arcs) k e) _
      (by_square (first (λ n. is_other s.split_list b.bounds (Square n)) (length p.nodes)) (λ k e. found (λ n. is_other s.split_list b.bounds (Square n)) (length p.nodes) k e)))))

pub forks_are_expected : ForksAreExpected
forks_are_expected p K part b turn fork within fits box_fits h ne =
    let box : PartBox = record { scale = K; part = part; bounds = b } in
    let o = subst (Owed p box) (sym h.fork_is) (owed p box h.shape within fits box_fits h.is_shape turn) in
    o ne
