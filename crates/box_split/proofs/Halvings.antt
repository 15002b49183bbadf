-- What the forks of a search are by: a group or an arc, until all groups are picked and all states are fixed, and then a
-- wide variable.
use Rattle.std.proofs.Common.{◌≡◌, ◌≢◌, ℕ, zero, suc, ◌<◌, Bool, true, false, not, List, length, refl, sym, subst, ◌∙◌, ◌⊎◌, inl, inr, arith}
use Rattle.std.specs.Prelude.{Option, Some, None, is_none, if◌then◌else◌}
use Rattle.std.specs.List.{list_any}
use Rattle.std.proofs.lemmas.Bool.{and_parts}
use Rattle.gas_model.specs.declared.rows.PartState.{PartState}
use Rattle.base_types.specs.declared.variables.Var.{Var}
use Rattle.base_types.specs.declared.variables.Var.TheVariants.{Flow, Square}
use Rattle.gas_model.specs.Rows.{Network}
use Rattle.gas_model.specs.Rulings.{pick_in}
use Rattle.gas_model.specs.Boxes.{Bounds, ends_of}
use Rattle.box_ends.specs.Middle.{middle}
use Rattle.topo.specs.States.{fixed_at}
use Rattle.tree_rules.specs.Branches.{same_var}
use Rattle.box_split.specs.declared.forks.Fork.{Fork}
use Rattle.box_split.specs.declared.forks.Fork.TheVariants.{Group, Free, Halve, Least}
use Rattle.box_split.specs.Forks.{first, or_else, if_none, is_wide, is_other, at_turn, halved, after, round, start, fork_of}
use Rattle.box_split.proofs.Firsts.{found}

-- all groups are picked and all states are fixed
abbrev pub Done : Network → PartState → Type 0
Done p part =
    (first (λ k. is_none (pick_in part.picks k)) (length p.groups) ≡ None) × (first (λ a. is_none (fixed_at p part a)) (length p.arcs) ≡ None)

abbrev pub IsEarlyFork : Fork → Type 0
IsEarlyFork (Group k) = Unit {0}
IsEarlyFork (Free a) = Unit {0}
IsEarlyFork (Halve v at next) = ⊥
IsEarlyFork Least = ⊥

module _ (p : Network) (split : List Var) (b : Bounds) (turn : ℕ) where
  abbrev pub squares : Fork
  squares = if_none (first (λ n. is_other split b (Square n)) (length p.nodes)) (λ n. halved b (Square n) turn) Least

  abbrev pub flows : Fork
  flows = if_none (first (λ a. is_other split b (Flow a)) (length p.arcs)) (λ a. halved b (Flow a) turn) squares

  -- the fork by a variable
  abbrev pub by_var : Fork
  by_var =
      if_none (first (λ k. is_wide b (at_turn split turn k)) (length split))
      (λ k. halved b (at_turn split turn k) (after (length split) (round (length split) (start (length split) turn) k)))
      flows

-- a wide variable is halved at its middle
pub record IsHalving (b : Bounds) (fork : Fork) : Type 0 where
  pub var : Var
  pub next : ℕ
  pub is : fork ≡ Halve var (middle (ends_of b var)) next
  pub wide : is_wide b var ≡ true

by_half : (b : Bounds) (n : ℕ) (t : ℕ → Bool) (v : ℕ → Var) (turn : ℕ → ℕ) (rest : Fork) → ((k : ℕ) → t k ≡ true → is_wide b (v k) ≡ true) → (rest ≢ Least → IsHalving b rest)
    → (o : Option ℕ) → first t n ≡ o → if_none o (λ k. halved b (v k) (turn k)) rest ≢ Least → IsHalving b (if_none o (λ k. halved b (v k) (turn k)) rest)
by_half b n t v turn rest wide h None e ne = h ne
by_half b n t v turn rest wide h (Some k) e ne = record { var = v k; next = turn k; is = refl; wide = wide k (found t n k e).passes }

other_wide : (split : List Var) (b : Bounds) (v : Var) → is_other split b v ≡ true → is_wide b v ≡ true
other_wide split b v h = (and_parts (is_wide b v) (not (list_any (same_var v) split)) h).0

pub halving_is : (p : Network) (split : List Var) (b : Bounds) (turn : ℕ) → by_var p split b turn ≢ Least → IsHalving b (by_var p split b turn)
halving_is p split b turn =
    by_half b (length split) (λ k. is_wide b (at_turn split turn k)) (at_turn split turn) (λ k. after (length split) (round (length split) (start (length split) turn) k)) (flows p split b turn)
    (λ k h. h)
    (by_half b (length p.arcs) (λ a. is_other split b (Flow a)) Flow (λ a. turn) (squares p split b turn)
    (λ k h. other_wide split b (Flow k) h)
    (by_half b (length p.nodes) (λ n. is_other split b (Square n)) Square (λ n. turn) Least
    (λ k h. other_wide split b (Square k) h)
    (λ ne. absurd (ne refl)) (first (λ n. is_other split b (Square n)) (length p.nodes)) refl)
    (first (λ a. is_other split b (Flow a)) (length p.arcs)) refl)
    (first (λ k. is_wide b (at_turn split turn k)) (length split)) refl

pub record IsEarly (p : Network) (part : PartState) (fork : Fork) : Type 0 where
  pub early : IsEarlyFork fork
  pub undone : Done p part → ⊥

pub record IsLate (p : Network) (split : List Var) (part : PartState) (b : Bounds) (turn : ℕ) (fork : Fork) : Type 0 where
  pub done : Done p part
  pub is : fork ≡ by_var p split b turn

module _ (p : Network) (split : List Var) (part : PartState) (b : Bounds) (turn : ℕ) (fork : Fork) where
  abbrev Cases : Type 0
  Cases = IsEarly p part fork ⊎ IsLate p split part b turn fork

  arc_or : first (λ k. is_none (pick_in part.picks k)) (length p.groups) ≡ None → (o : Option ℕ) → first (λ a. is_none (fixed_at p part a)) (length p.arcs) ≡ o
      → fork ≡ if_none o Free (by_var p split b turn) → Cases
  arc_or picked None e is = inr (record { done = (picked, e); is = is })
  arc_or picked (Some a) e is = inl (record { early = subst IsEarlyFork (sym is) tt; undone = λ d. absurd (let f = d.1 in cc) })

  group_or : (o : Option ℕ) → first (λ k. is_none (pick_in part.picks k)) (length p.groups) ≡ o
      → fork ≡ if_none o Group (if_none (first (λ a. is_none (fixed_at p part a)) (length p.arcs)) Free (by_var p split b turn)) → Cases
  group_or None e is = arc_or e (first (λ a. is_none (fixed_at p part a)) (length p.arcs)) refl is
  group_or (Some k) e is = inl (record { early = subst IsEarlyFork (sym is) tt; undone = λ d. absurd (let f = d.0 in cc) })

  pub fork_cases : fork ≡ fork_of p split part b turn → Cases
  fork_cases is = group_or (first (λ k. is_none (pick_in part.picks k)) (length p.groups)) refl is
