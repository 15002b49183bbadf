-- The nodes of a cut, which ascend, and its arcs.
use Rattle.std.proofs.Common.{◌≡◌, ℕ, zero, suc, ◌+◌, ◌*◌, ◌^◌, ◌<◌, ◌≤◌, refl, ap, ◌∙◌, arith, lit≤, ℤ, pos, ◌+ℤ◌, ◌≤ℤ◌, neg_ℤ, w64, List, [], ◌∷◌, length, take, drop, get_or, add-one, Bool, true, false, ◌&&◌, IsTrue, FitsSigned}
use Rattle.std.specs.Prelude.{nat_lt}
use Rattle.std.specs.Int.{w128}
use Rattle.std.proofs.lemmas.Bool.Decides.{nat_tests}
use Rattle.std.proofs.Math.Seq.{drop-cons, take-length}
use Rattle.std.proofs.lemmas.List.{drop_all}
use borrow.Author.Differences.{fits_in}
use Rattle.base_types.specs.Numbers.{is_flow}
use Rattle.gas_model.proofs.LimitFacts.{flow_size}
use Rattle.std.proofs.lemmas.Bool.{and_parts, and_from}
use borrow.Author.Tests.{ltb-true, lt-ltb}
use Rattle.integer_laws.specs.Sizes.{IsWithin}
use Rattle.integer_laws.proofs.Ring.{linear}
use Rattle.integer_laws.proofs.SizeLemmas.{within_fits, sum_within}
use Rattle.gas_model.specs.declared.rows.NodeRow.{NodeRow}
use Rattle.tree_cert.specs.Spelling.{ascends_after}
use Rattle.tree_rules.specs.NodeRules.{sum_nodes, are_cut_nodes}
use Rattle.tree_check.specs.Cuts.{ascends, all_inside}

-- at least one, ascending and inside is what a cut asks of its nodes
pub are_cut_nodes_is : (nodes : List NodeRow) (ns : List ℕ) → are_cut_nodes nodes ns ≡ (ascends ns && all_inside (length nodes) ns)
are_cut_nodes_is nodes [] = refl
are_cut_nodes_is nodes (n ∷ ns) = refl

-- one more number of a list that ascends
pub ascend_more : (last : ℕ) (ns : List ℕ) (k : ℕ) → k < length ns → last < get_or ns k 0 → ascends_after last (drop k ns) ≡ ascends_after (get_or ns k 0) (drop (suc k) ns)
ascend_more last ns k l h =
    ap (ascends_after last) (drop-cons ns k 0 l) ∙ ap (λ (b : Bool). b && ascends_after (get_or ns k 0) (drop (suc k) ns)) (lt-ltb last (get_or ns k 0) h)

pub ascend_stops : (last : ℕ) (ns : List ℕ) (k : ℕ) → k < length ns → get_or ns k 0 ≤ last → ascends_after last (drop k ns) ≡ false
ascend_stops last ns k l h =
    ap (ascends_after last) (drop-cons ns k 0 l) ∙ ap (λ (b : Bool). b && ascends_after (get_or ns k 0) (drop (suc k) ns)) (let t : nat_lt last (get_or ns k 0) ≡ false = grind (arith, nat_tests) in t)

pub ascend_ends : (last : ℕ) (ns : List ℕ) (k : ℕ) → length ns ≤ k → ascends_after last (drop k ns) ≡ true
ascend_ends last ns k l = ap (ascends_after last) (drop_all k ns l)

-- the sum of a supply over the first nodes of a list
pub record SupplySums (f : ℕ → ℤ) (ns : List ℕ) (k : ℕ) (total : ℤ) : Type 0 where
  pub sum : total ≡ sum_nodes f (take k ns)
  pub size : IsWithin (k * 10 ^ 12) total

sum_more : (f : ℕ → ℤ) (k : ℕ) (xs : List ℕ) → k < length xs → sum_nodes f (take (suc k) xs) ≡ sum_nodes f (take k xs) +ℤ f (get_or xs k 0)
sum_more f k [] h = absurd (omega arith)
sum_more f zero (x ∷ xs) h = omega (arith, linear)
sum_more f (suc k) (x ∷ xs) h = omega (arith, linear, sum_more f k xs (omega arith))

pub supply_none : (f : ℕ → ℤ) (ns : List ℕ) → SupplySums f ns 0 (pos 0)
supply_none f ns = record { sum = refl; size = lit≤ tt }

pub supply_step : (f : ℕ → ℤ) (ns : List ℕ) (k : ℕ) (total term : ℤ) → SupplySums f ns k total → k < length ns → term ≡ f (get_or ns k 0) → IsWithin (10 ^ 12) term → SupplySums f ns (k + 1) (total +ℤ term)
supply_step f ns k total term s l e small = record {
  sum = rw (add-one k) (omega (arith, linear, sum_more f k ns l, e, s.sum));
  size = omega (arith, sum_within total term (k * 10 ^ 12) (10 ^ 12) s.size small);
}

pub supply_fits : (f : ℕ → ℤ) (ns : List ℕ) (k : ℕ) (total : ℤ) → SupplySums f ns k total → k ≤ 2000 → FitsSigned w128 total
supply_fits f ns k total s l = within_fits (2000 * 10 ^ 12) total (omega (arith, s.size)) (lit≤ tt)

pub supply_whole : (f : ℕ → ℤ) (ns : List ℕ) (total : ℤ) → SupplySums f ns (length ns) total → total ≡ sum_nodes f ns
supply_whole f ns total s = s.sum ∙ ap (sum_nodes f) (take-length ns)

-- each number is below the count
pub inside_at : (count : ℕ) (ns : List ℕ) (k : ℕ) → IsTrue (all_inside count ns) → k < length ns → get_or ns k 0 < count
inside_at count [] k t l = absurd (omega arith)
inside_at count (n ∷ ns) zero t l = ltb-true n count (and_parts (nat_lt n count) (all_inside count ns) t).0
inside_at count (n ∷ ns) (suc k) t l = inside_at count ns k (and_parts (nat_lt n count) (all_inside count ns) t).1 (omega arith)

-- numbers below the count are below a greater one
pub inside_more : (count more : ℕ) (ns : List ℕ) → count ≤ more → IsTrue (all_inside count ns) → IsTrue (all_inside more ns)
inside_more count more [] l t = t
inside_more count more (n ∷ ns) l t =
    let parts = and_parts (nat_lt n count) (all_inside count ns) t in
    and_from (nat_lt n more) (all_inside more ns) (lt-ltb n more (omega (arith, ltb-true n count parts.0, l))) (inside_more count more ns l parts.1)

-- numbers that ascend below the count are at most as many
few_after : (count n : ℕ) (ns : List ℕ) → IsTrue (ascends_after n ns) → IsTrue (all_inside count (n ∷ ns)) → n + length ns < count
few_after count n [] t i = omega (arith, ltb-true n count (and_parts (nat_lt n count) (all_inside count []) i).0)
few_after count n (m ∷ ns) t i =
    let parts = and_parts (nat_lt n m) (ascends_after m ns) t in
    omega (arith, ltb-true n m parts.0, few_after count m ns parts.1 (and_parts (nat_lt n count) (all_inside count (m ∷ ns)) i).1)

pub few_nodes : (count : ℕ) (ns : List ℕ) → IsTrue (ascends ns) → IsTrue (all_inside count ns) → length ns ≤ count
few_nodes count [] t i = omega arith
few_nodes count (n ∷ ns) t i = omega (arith, few_after count n ns t i)

-- a cut asks for all three
pub full_cut : (a b d u x : Bool) → x ≡ (a && b) → a ≡ true → b ≡ true → d ≡ true → u ≡ (x && d && u)
full_cut a b d u x e p q r = grind arith

pub small_flow : (q : ℤ) → IsTrue (is_flow q) → FitsSigned w64 q
small_flow q t =
    let low : neg_ℤ (pos (10 ^ 12)) ≤ℤ q = grind (arith, linear) in
    let high : q ≤ℤ pos (10 ^ 12) = grind (arith, linear) in
    fits_in w64 q (omega (arith, linear))

pub wide_flow : (q : ℤ) → IsTrue (is_flow q) → FitsSigned w128 q
wide_flow q t = within_fits (10 ^ 12) q (flow_size q t) (lit≤ tt)
