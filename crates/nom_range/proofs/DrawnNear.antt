-- What carries a problem in which a node's draw has an interval carries the one in which the node draws just as much.
use Rattle.std.proofs.Common.{◌≡◌, ◌∙◌, ap, sym, subst, refl, ℕ, zero, suc, ◌<◌, ℤ, pos, neg_ℤ, ◌*ℤ◌, ◌≤ℤ◌, List, [], ◌∷◌, length, Some, IsTrue, ◌⊎◌, inl, inr, arith}
use Rattle.std.proofs.lemmas.Int.{ints}
use Rattle.std.specs.Prelude.{slice_get, slice_set, slice_index_or}
use Rattle.gas_model.specs.declared.rows.NodeRow.{NodeRow}
use Rattle.gas_model.specs.declared.rows.Setting.{Setting}
use Rattle.integer_laws.proofs.Ring.{linear, one_mul}
use Rattle.base_types.specs.Numbers.{between}
use Rattle.gas_model.specs.Rows.{Network}
use Rattle.gas_model.specs.Points.{balances, keeps_square, net_flow}
use Rattle.gas_model.specs.Near.{IsNear, SettingFits, number_at}
use Rattle.gas_model.specs.Supplies.{no_node, node_with_supply}
use Rattle.nom_range.specs.Draws.{draw, drawn}

-- what stands in a list with one item put in is that item, or stands there too with another one put in
swapped : {A : Type 0} (xs : List A) (n k : ℕ) (v w y : A) → slice_get (slice_set xs n v) k ≡ Some y → ((k ≡ n) × (v ≡ y)) ⊎ (slice_get (slice_set xs n w) k ≡ Some y)
swapped [] n k v w y h = absurd cc
swapped (x ∷ xs) zero zero v w y h = inl (refl, cc)
swapped (x ∷ xs) zero (suc k) v w y h = inr h
swapped (x ∷ xs) (suc n) zero v w y h = inr h
swapped (x ∷ xs) (suc n) (suc k) v w y h = elim (swapped xs n k v w y h) [ inl e ↦ inl (ap suc e.0, e.1) | inr e ↦ inr e ]

put_in : {A : Type 0} (xs : List A) (n : ℕ) (v : A) → n < length xs → slice_get (slice_set xs n v) n ≡ Some v
put_in [] n v h = absurd (omega arith)
put_in (x ∷ xs) zero v h = refl
put_in (x ∷ xs) (suc n) v h = put_in xs n v (omega arith)

as_many : {A : Type 0} (xs : List A) (n : ℕ) (v w : A) → length (slice_set xs n v) ≡ length (slice_set xs n w)
as_many [] n v w = refl
as_many (x ∷ xs) zero v w = refl
as_many (x ∷ xs) (suc n) v w = ap suc (as_many xs n v w)

-- the node, where it draws from x to y
abbrev drawing : Network → ℕ → (x y : ℤ) → NodeRow
drawing p n x y = node_with_supply (slice_index_or p.nodes n no_node) (neg_ℤ y) (neg_ℤ x)

draw_turned : (p : Network) (n : ℕ) (s : Setting) → net_flow (number_at s.flows) n p.arcs ≡ neg_ℤ (draw p n s)
draw_turned p n s = omega (arith, ints)

from_to : (x y net : ℤ) → IsTrue (between (pos 1 *ℤ neg_ℤ y) net (pos 1 *ℤ neg_ℤ x)) → (x ≤ℤ neg_ℤ net) × (neg_ℤ net ≤ℤ y)
from_to x y net h =
    let t = rw (one_mul (neg_ℤ y), one_mul (neg_ℤ x)) at h in
    (grind (arith, linear), grind (arith, linear))

just : (d net : ℤ) → net ≡ neg_ℤ d → IsTrue (between (pos 1 *ℤ neg_ℤ d) net (pos 1 *ℤ neg_ℤ d))
just d net e = rw (one_mul (neg_ℤ d)) (grind (arith, linear))

-- the draw lies in the interval
pub draw_within : (p : Network) (n : ℕ) (x y tol : ℤ) (s : Setting) → n < length p.nodes → IsNear (drawn p n x y) tol s → (x ≤ℤ draw p n s) × (draw p n s ≤ℤ y)
draw_within p n x y tol s here near =
    let b = near.balances n (drawing p n x y) (put_in p.nodes n (drawing p n x y) here) in
    let r = from_to x y (net_flow (number_at s.flows) n p.arcs) b in
    let d = draw_turned p n s in
    (omega (arith, linear, r.0), omega (arith, linear, r.1))

pub near_at_draw : (p : Network) (n : ℕ) (x y tol : ℤ) (s : Setting) → n < length p.nodes → IsNear (drawn p n x y) tol s → IsNear (drawn p n (draw p n s) (draw p n s)) tol s
near_at_draw p n x y tol s here near =
    let d = draw p n s in
    let old = drawing p n x y in
    let new = drawing p n d d in
    let square : IsTrue (keeps_square new (pos 1) (number_at s.squares n)) = near.squares n old (put_in p.nodes n old here) in
    let balance : IsTrue (balances new (pos 1) (number_at s.flows) n p.arcs) = just d (net_flow (number_at s.flows) n p.arcs) (draw_turned p n s) in
    record {
      listed = record { picked = near.listed.picked; one_each = near.listed.one_each; allowed = near.listed.allowed };
      numbers = record { flows = near.numbers.flows; squares = near.numbers.squares ∙ as_many p.nodes n old new };
      flows = near.flows;
      squares = λ k node is. elim (swapped p.nodes n k new old node is) [
        | inl e ↦ subst (λ (r : NodeRow). IsTrue (keeps_square r (pos 1) (number_at s.squares k))) e.1 (subst (λ (i : ℕ). IsTrue (keeps_square new (pos 1) (number_at s.squares i))) (sym e.0) square)
        | inr there ↦ near.squares k node there
      ];
      balances = λ k node is. elim (swapped p.nodes n k new old node is) [
        | inl e ↦ subst (λ (r : NodeRow). IsTrue (balances r (pos 1) (number_at s.flows) k p.arcs)) e.1 (subst (λ (i : ℕ). IsTrue (balances new (pos 1) (number_at s.flows) i p.arcs)) (sym e.0) balance)
        | inr there ↦ near.balances k node there
      ];
      laws = near.laws;
    }

-- what fits a problem fits it whatever the node draws
pub fits_as_well : (p : Network) (n : ℕ) (x y v w : ℤ) (s : Setting) → SettingFits (drawn p n x y) s → SettingFits (drawn p n v w) s
fits_as_well p n x y v w s fits = record {
  picks = fits.picks;
  states = fits.states;
  flows = fits.flows;
  squares = fits.squares ∙ as_many p.nodes n (drawing p n x y) (drawing p n v w);
  flows_within = fits.flows_within;
  squares_within = fits.squares_within;
}
