-- Sums at a node, where one flow changes.
use Rattle.std.proofs.Common.{◌≡◌, ◌≢◌, ℕ, zero, suc, ◌<◌, ◌+◌, ◌==◌, ◌||◌, inl, inr, refl, sym, ap, ◌∙◌, arith, Bool, true, false, List, [], ◌∷◌, length, ℤ, pos, ◌+ℤ◌, ◌-ℤ◌}
use Rattle.std.specs.Prelude.{if◌then◌else◌, slice_index_or}
use Rattle.std.proofs.lemmas.Bool.{cases_eq}
use Rattle.integer_laws.proofs.Ring.{linear}
use Rattle.gas_model.specs.declared.rows.ArcRow.{ArcRow}
use Rattle.gas_model.specs.Points.{sum_arcs, leaving, entering, net_flow}
use Rattle.topo.specs.Graphs.{Graph, graph_of, no_arc, is_at}

-- what the arc a takes from the node v
abbrev pub share : Graph → (ℕ → ℤ) → ℕ → ℕ → ℤ
share g q v a = (if g.from a == v then q a else pos 0) -ℤ (if g.to a == v then q a else pos 0)

-- the flows of the first k arcs that leave the node v, less those that enter it
abbrev pub net : Graph → (ℕ → ℤ) → ℕ → ℕ → ℤ
net g q v zero = pos 0
net g q v (suc k) = net g q v k +ℤ share g q v k

total : (a b c e h f k m n o : ℤ) → e ≡ f → h ≡ k → m ≡ a +ℤ (e -ℤ h) → m +ℤ (b -ℤ c) ≡ n → n ≡ o → a +ℤ ((f +ℤ b) -ℤ (k +ℤ c)) ≡ o
total a b c e h f k m n o p q r s t = omega (arith, linear, p, q, r, s, t)

net_more : (g : Graph) (q : ℕ → ℤ) (v i : ℕ) (rows : List ArcRow) → ((k : ℕ) → k < length rows → (g.from (i + k) ≡ (slice_index_or rows k no_arc).from) × (g.to (i + k) ≡ (slice_index_or rows k no_arc).to))
    → net g q v i +ℤ (sum_arcs (leaving q v) i rows -ℤ sum_arcs (entering q v) i rows) ≡ net g q v (i + length rows)
net_more g q v i [] f = let e : net g q v i ≡ net g q v (i + 0) = ap (net g q v) {x = i} {y = i + 0} (omega arith) in omega (arith, linear, e)
net_more g q v i (row ∷ rows) f =
    let here = f 0 (omega arith) in
    let zero_on : i ≡ i + 0 = omega arith in
    let from : g.from i ≡ row.from = ap g.from zero_on ∙ here.0 in
    let to : g.to i ≡ row.to = ap g.to zero_on ∙ here.1 in
    let out : (if g.from i == v then q i else pos 0) ≡ leaving q v i row = ap (λ (n : ℕ). if n == v then q i else pos 0) from in
    let in_ : (if g.to i == v then q i else pos 0) ≡ entering q v i row = ap (λ (n : ℕ). if n == v then q i else pos 0) to in
    let next = net_more g q v (i + 1) rows (λ k h. let e : i + 1 + k ≡ i + suc k = omega arith in let r = f (suc k) (omega arith) in (ap g.from e ∙ r.0, ap g.to e ∙ r.1)) in
    let one : net g q v (i + 1) ≡ net g q v i +ℤ share g q v i = ap (net g q v) {x = i + 1} {y = suc i} (omega arith) in
    let last : net g q v (i + 1 + length rows) ≡ net g q v (i + length (row ∷ rows)) = ap (net g q v) {x = i + 1 + length rows} {y = i + suc (length rows)} (omega arith) in
    let a : ℤ = net g q v i in
    let b : ℤ = sum_arcs (leaving q v) (i + 1) rows in
    let c : ℤ = sum_arcs (entering q v) (i + 1) rows in
    total a b c (if g.from i == v then q i else pos 0) (if g.to i == v then q i else pos 0) (leaving q v i row) (entering q v i row) (net g q v (i + 1)) (net g q v (i + 1 + length rows)) (net g q v (i + length (row ∷ rows))) out in_ one next last

-- the sums of the problem are these
pub net_is : (rows : List ArcRow) (q : ℕ → ℤ) (v : ℕ) → net_flow q v rows ≡ net (graph_of rows) q v (length rows)
net_is rows q v =
    let e = net_more (graph_of rows) q v 0 rows (λ k h. let z : 0 + k ≡ k = omega arith in (ap (graph_of rows).from z, ap (graph_of rows).to z)) in
    let l : net (graph_of rows) q v (0 + length rows) ≡ net (graph_of rows) q v (length rows) = ap (net (graph_of rows) q v) {x = 0 + length rows} {y = length rows} (omega arith) in
    omega (arith, linear, e, l)

share_same : (b c : Bool) (x y : ℤ) → ((b || c) ≡ true → x ≡ y) → ((if b then x else pos 0) -ℤ (if c then x else pos 0)) ≡ ((if b then y else pos 0) -ℤ (if c then y else pos 0))
share_same true c x y h = ap (λ (z : ℤ). z -ℤ (if c then z else pos 0)) (h refl)
share_same false true x y h = ap (λ (z : ℤ). pos 0 -ℤ z) (h refl)
share_same false false x y h = refl

-- sums look at arcs of the node alone
pub net_same : (g : Graph) (q r : ℕ → ℤ) (v k : ℕ) → ((a : ℕ) → a < k → is_at g v a ≡ true → q a ≡ r a) → net g q v k ≡ net g r v k
net_same g q r v zero h = refl
net_same g q r v (suc k) h =
    let i = net_same g q r v k (λ a ha. h a (omega arith)) in
    let s : share g q v k ≡ share g r v k = share_same (g.from k == v) (g.to k == v) (q k) (r k) (h k (omega arith)) in
    omega (arith, linear, i, s)

-- the share of a flow x
abbrev pub part : Graph → ℕ → ℕ → ℤ → ℤ
part g a v x = (if g.from a == v then x else pos 0) -ℤ (if g.to a == v then x else pos 0)

pub part_none : (b c : Bool) → ((if b then pos 0 else pos 0) -ℤ (if c then pos 0 else pos 0)) ≡ pos 0
part_none true true = refl
part_none true false = refl
part_none false true = refl
part_none false false = refl

-- one arc, a, that had no flow gets one
pub net_given : (g : Graph) (q r : ℕ → ℤ) (v a k : ℕ) → a < k → q a ≡ pos 0 → ((i : ℕ) → i ≢ a → r i ≡ q i) → net g r v k ≡ net g q v k +ℤ part g a v (r a)
net_given g q r v a zero h e f = absurd (omega arith)
net_given g q r v a (suc k) h e f = elim (cases_eq a k) [
  | inl e1 ↦
      let i = net_same g r q v k (λ j hj t. f j (omega arith)) in
      let z : share g q v k ≡ pos 0 = ap (λ (x : ℤ). (if g.from k == v then x else pos 0) -ℤ (if g.to k == v then x else pos 0)) (ap q (sym e1) ∙ e) ∙ part_none (g.from k == v) (g.to k == v) in
      let y : share g r v k ≡ part g a v (r a) = ap (λ (j : ℕ). part g j v (r j)) (sym e1) in
      omega (arith, linear, i, z, y)
  | inr e1 ↦
      let i = net_given g q r v a k (omega arith) e f in
      let s : share g r v k ≡ share g q v k = ap (λ (x : ℤ). (if g.from k == v then x else pos 0) -ℤ (if g.to k == v then x else pos 0)) (f k (λ e2. e1 (sym e2))) in
      omega (arith, linear, i, s)
]
