-- A box that is split no more has no wide variable.
use Rattle.std.proofs.Common.{◌≡◌, ℕ, zero, suc, ◌≤◌, refl, sym, ◌∙◌, inl, inr, arith, ℤ, pos, ◌≤ℤ◌, false, List, [], ◌∷◌, length, slice_index_or, Option, Some, None}
use Rattle.std.specs.Prelude.{int_le, is_none}
use Rattle.std.proofs.lemmas.Bool.{cases_lt}
use Rattle.integer_laws.proofs.Ring.{linear}
use Rattle.base_types.specs.declared.variables.Var.{Var}
use Rattle.base_types.specs.declared.variables.Var.TheVariants.{Flow, Square}
use Rattle.gas_model.specs.declared.rows.Ends.{Ends}
use Rattle.gas_model.specs.declared.rows.PartState.{PartState}
use Rattle.gas_model.specs.Rows.{Network}
use Rattle.gas_model.specs.Rulings.{pick_in}
use Rattle.gas_model.specs.Boxes.{Bounds, BoxFits, no_ends, ends_of, width_of}
use Rattle.topo.specs.States.{fixed_at}
use Rattle.box_split.specs.declared.forks.Fork.{Fork}
use Rattle.box_split.specs.declared.forks.Fork.TheVariants.{Group, Free, Least}
use Rattle.box_split.specs.Forks.{first, if_none, is_wide, at_turn, halved, after, round, start, fork_of}
use Rattle.box_split.specs.Parts.{other_fork, halving}
use Rattle.box_split.proofs.Firsts.{all_false}
use Rattle.box_split.proofs.Others.{fork_halving}

-- ---- what isn't found where nothing splits a box
no_group : (o : Option ℕ) (rest : Fork) → if_none o Group rest ≡ Least → (o ≡ None) × (rest ≡ Least)
no_group None rest e = (refl, e)
no_group (Some k) rest e = absurd cc

no_arc : (o : Option ℕ) (rest : Fork) → if_none o Free rest ≡ Least → (o ≡ None) × (rest ≡ Least)
no_arc None rest e = (refl, e)
no_arc (Some a) rest e = absurd cc

no_half : (b : Bounds) (o : Option ℕ) (v : ℕ → Var) (turn : ℕ → ℕ) (rest : Fork) → if_none o (λ k. halved b (v k) (turn k)) rest ≡ Least → (o ≡ None) × (rest ≡ Least)
no_half b None v turn rest e = (refl, e)
no_half b (Some k) v turn rest e = absurd cc

-- no flow and no square can be halved
pub record NoneIsWide (p : Network) (b : Bounds) : Type 0 where
  pub flows : first (λ a. is_wide b (Flow a)) (length p.arcs) ≡ None
  pub squares : first (λ n. is_wide b (Square n)) (length p.nodes) ≡ None

none_by : (p : Network) (split : List Var) (b : Bounds) (turn : ℕ) → halving p split b turn ≡ Least → NoneIsWide p b
none_by p split b turn e =
    let listed = no_half b (first (λ k. is_wide b (at_turn split turn k)) (length split)) (at_turn split turn) (λ k. after (length split) (round (length split) (start (length split) turn) k)) (other_fork p b turn) e in
    let flows = no_half b (first (λ a. is_wide b (Flow a)) (length p.arcs)) Flow (λ a. turn) _ listed.1 in
    let squares = no_half b (first (λ n. is_wide b (Square n)) (length p.nodes)) Square (λ n. turn) Least flows.1 in
    record { flows = flows.0; squares = squares.0 }

pub none_is_wide : (p : Network) (split : List Var) (part : PartState) (b : Bounds) (turn : ℕ) → Least ≡ fork_of p split part b turn → NoneIsWide p b
none_is_wide p split part b turn e =
    let picked = no_group (first (λ k. is_none (pick_in part.picks k)) (length p.groups)) _ (sym e) in
    let fixed = no_arc (first (λ a. is_none (fixed_at p part a)) (length p.arcs)) _ picked.1 in
    none_by p split b turn (fork_halving p split part b turn picked.0 fixed.0 ∙ sym e)

-- ---- so each variable is at most one unit wide
not_wide : (w : ℤ) → int_le (pos 2) w ≡ false → w ≤ℤ pos 1
not_wide w e = omega (arith, linear, e)

past : (xs : List Ends) (i : ℕ) → length xs ≤ i → slice_index_or xs i no_ends ≡ no_ends
past [] i le = refl
past (x ∷ xs) zero le = absurd (omega arith)
past (x ∷ xs) (suc i) le = past xs i (omega arith)

pub at_most_one : (p : Network) (b : Bounds) → BoxFits p b → NoneIsWide p b → (v : Var) → width_of (ends_of b v) ≤ℤ pos 1
at_most_one p b fits none (Flow a) =
    elim (cases_lt a (length p.arcs)) [
      | inl lt ↦ not_wide (width_of (ends_of b (Flow a))) (all_false (λ i. is_wide b (Flow i)) (length p.arcs) none.flows a lt)
      | inr le ↦ let e = past b.flows a (let f = fits.flows in omega arith) in rw e (omega (arith, linear))
    ]
at_most_one p b fits none (Square n) =
    elim (cases_lt n (length p.nodes)) [
      | inl lt ↦ not_wide (width_of (ends_of b (Square n))) (all_false (λ i. is_wide b (Square i)) (length p.nodes) none.squares n lt)
      | inr le ↦ let e = past b.squares n (let f = fits.squares in omega arith) in rw e (omega (arith, linear))
    ]
