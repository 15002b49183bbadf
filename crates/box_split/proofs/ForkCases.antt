-- What a fork that isn't `Least` is by.
use Rattle.std.proofs.Common.{◌≡◌, ◌≢◌, ℕ, zero, suc, ◌<◌, Bool, true, false, List, length, refl, subst, ◌∙◌, ◌⊎◌, inl, inr, arith, ℤ}
use Rattle.std.specs.Prelude.{Option, Some, None, is_none, if◌then◌else◌}
use Rattle.gas_model.specs.declared.rows.PartState.{PartState}
use Rattle.base_types.specs.declared.variables.Var.{Var}
use Rattle.base_types.specs.declared.variables.Var.TheVariants.{Flow, Square}
use Rattle.gas_model.specs.Rows.{Network}
use Rattle.gas_model.specs.Rulings.{pick_in}
use Rattle.gas_model.specs.Boxes.{Bounds}
use Rattle.topo.specs.States.{fixed_at}
use Rattle.box_split.specs.declared.forks.Fork.{Fork}
use Rattle.box_split.specs.declared.forks.Fork.TheVariants.{Group, Free, Halve, Least}
use Rattle.box_split.proofs.Firsts.{all_false, IsFirst, found}
use Rattle.box_split.specs.Forks.{first, or_else, if_none, is_wide, is_other, at_turn, halved, after, round, start, fork_of}

abbrev pub unpicked : PartState → ℕ → Bool
unpicked part k = is_none (pick_in part.picks k)

abbrev pub unfixed : Network → PartState → ℕ → Bool
unfixed p part a = is_none (fixed_at p part a)

abbrev pub AllPicked : Network → PartState → Type 0
AllPicked p part = (k : ℕ) → k < length p.groups → unpicked part k ≡ false

abbrev pub AllFixed : Network → PartState → Type 0
AllFixed p part = (a : ℕ) → a < length p.arcs → unfixed p part a ≡ false

-- by the first group that isn't picked
pub record ByGroup (p : Network) (part : PartState) (fork : Fork) : Type 0 where
  pub group : ℕ
  pub is : fork ≡ Group group
  pub found : IsFirst (unpicked part) (length p.groups) group

-- by an arc whose state isn't fixed, where all groups are picked
pub record ByArc (p : Network) (part : PartState) (fork : Fork) : Type 0 where
  pub arc : ℕ
  pub is : fork ≡ Free arc
  pub picked : AllPicked p part
  pub found : IsFirst (unfixed p part) (length p.arcs) arc

pub record IsHalving (fork : Fork) : Type 0 where
  pub var : Var
  pub at : ℤ
  pub next : ℕ
  pub is : fork ≡ Halve var at next

-- by a variable, where all groups are picked and all states are fixed
pub record ByHalf (p : Network) (part : PartState) (fork : Fork) : Type 0 where
  pub half : IsHalving fork
  pub picked : AllPicked p part
  pub fixed : AllFixed p part

by_half : (b : Bounds) (o : Option ℕ) (v : ℕ → Var) (turn : ℕ → ℕ) (rest : Fork) → (rest ≢ Least → IsHalving rest)
    → if_none o (λ k. halved b (v k) (turn k)) rest ≢ Least → IsHalving (if_none o (λ k. halved b (v k) (turn k)) rest)
by_half b None v turn rest h wide = h wide
by_half b (Some k) v turn rest h wide = record { var = v k; at = _; next = turn k; is = refl }

module _ (p : Network) (split : List Var) (part : PartState) (b : Bounds) (turn : ℕ) where
  abbrev squares : Fork
  squares = if_none (first (λ n. is_other split b (Square n)) (length p.nodes)) (λ n. halved b (Square n) turn) Least

  abbrev flows : Fork
  flows = if_none (first (λ a. is_other split b (Flow a)) (length p.arcs)) (λ a. halved b (Flow a) turn) squares

  abbrev halves : Fork
  halves =
      if_none (first (λ k. is_wide b (at_turn split turn k)) (length split))
      (λ k. halved b (at_turn split turn k) (after (length split) (round (length split) (start (length split) turn) k)))
      flows

  is_half : halves ≢ Least → IsHalving halves
  is_half =
      by_half b (first (λ k. is_wide b (at_turn split turn k)) (length split)) (at_turn split turn) (λ k. after (length split) (round (length split) (start (length split) turn) k)) flows
      (by_half b (first (λ a. is_other split b (Flow a)) (length p.arcs)) Flow (λ a. turn) squares
      (by_half b (first (λ n. is_other split b (Square n)) (length p.nodes)) Square (λ n. turn) Least (λ ne. absurd (ne refl))))

  abbrev Cases : Fork → Type 0
  Cases fork = ByGroup p part fork ⊎ (ByArc p part fork ⊎ ByHalf p part fork)

  arc_or : AllPicked p part → (o : Option ℕ) → first (unfixed p part) (length p.arcs) ≡ o → if_none o Free halves ≢ Least → Cases (if_none o Free halves)
  arc_or picked None e wide = inr (inr (record { half = is_half wide; picked = picked; fixed = all_false (unfixed p part) (length p.arcs) e }))
  arc_or picked (Some a) e wide = inr (inl (record { arc = a; is = refl; picked = picked; found = found (unfixed p part) (length p.arcs) a e }))

  group_or : (o : Option ℕ) → first (unpicked part) (length p.groups) ≡ o
      → if_none o Group (if_none (first (unfixed p part) (length p.arcs)) Free halves) ≢ Least → Cases (if_none o Group (if_none (first (unfixed p part) (length p.arcs)) Free halves))
  group_or None e wide = arc_or (all_false (unpicked part) (length p.groups) e) (first (unfixed p part) (length p.arcs)) refl wide
  group_or (Some k) e wide = inl (record { group = k; is = refl; found = found (unpicked part) (length p.groups) k e })

  pub fork_cases : fork_of p split part b turn ≢ Least → ByGroup p part (fork_of p split part b turn) ⊎ (ByArc p part (fork_of p split part b turn) ⊎ ByHalf p part (fork_of p split part b turn))
  fork_cases wide = group_or (first (unpicked part) (length p.groups)) refl wide
