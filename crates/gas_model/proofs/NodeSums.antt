-- Sums over the arcs at a node: one after the other, and all but one.
use Rattle.std.proofs.Common.{◌≡◌, ◌≢◌, ℕ, zero, suc, ◌+◌, ◌*◌, ◌<◌, ◌≤◌, refl, sym, ap, ◌∙◌, subst, arith, ℤ, pos, ◌+ℤ◌, ◌-ℤ◌, neg_ℤ, List, [], ◌∷◌, length, take, get_or, add-one, add-zero, eq-eqb, ne_eqb, Bool, true, false, cond, ◌==◌, Some}
use Rattle.std.specs.Prelude.{◌||◌, slice_get}
use Rattle.std.specs.Option.{option_map_or}
use Rattle.std.proofs.lemmas.Bool.Decides.{nat_tests}
use Rattle.std.proofs.Math.Seq.{take-length}
use Rattle.integer_laws.specs.Sizes.{IsWithin}
use Rattle.integer_laws.proofs.Ring.{linear}
use Rattle.integer_laws.proofs.SizeLemmas.{within_parts, one_part, sum_within}
use Rattle.gas_model.specs.declared.rows.ArcRow.{ArcRow}
use Rattle.gas_model.specs.Points.{touches, arcs_from, arcs_at, sum_arcs, leaving, entering, other, sum_out, sum_in, sum_other_out, sum_other_in}

-- ---- the sum without the row a, and its own term
other_same : (f : ℕ → ArcRow → ℤ) (a i : ℕ) (row : ArcRow) → i ≡ a → other a f i row ≡ pos 0
other_same f a i row e = ap (λ (b : Bool). cond b (pos 0) (f i row)) (eq-eqb i a e)

other_apart : (f : ℕ → ArcRow → ℤ) (a i : ℕ) (row : ArcRow) → i ≢ a → other a f i row ≡ f i row
other_apart f a i row n = ap (λ (b : Bool). cond b (pos 0) (f i row)) (ne_eqb i a n)

sum_past : (f : ℕ → ArcRow → ℤ) (a i : ℕ) (rows : List ArcRow) → suc a ≤ i → sum_arcs (other a f) i rows ≡ sum_arcs f i rows
sum_past f a i [] h = refl
sum_past f a i (row ∷ rows) h = omega (arith, linear, other_apart f a i row (omega arith), sum_past f a (i + 1) rows (omega arith))

pub sum_other : (f : ℕ → ArcRow → ℤ) (b a i : ℕ) (row : ArcRow) (rows : List ArcRow) → b ≡ i + a → slice_get rows a ≡ Some row → sum_arcs (other b f) i rows +ℤ f b row ≡ sum_arcs f i rows
sum_other f b a i row [] s e = absurd (cc)
sum_other f b zero i row (first ∷ rows) s e =
    let here : f b row ≡ f i first = cc (add-zero i) in
    omega (arith, linear, here, other_same f b i first (omega arith), sum_past f b (i + 1) rows (omega arith))
sum_other f b (suc a) i row (first ∷ rows) s e =
    omega (arith, linear, other_apart f b i first (omega arith), sum_other f b a (i + 1) row rows (omega arith) e)

-- an arc's own term among those that leave the node, and among those that enter it
pub own_out : (a n : ℕ) (x : ℕ → ℤ) (row : ArcRow) (arcs : List ArcRow) → slice_get arcs a ≡ Some row → row.from ≡ n → sum_other_out a x n arcs +ℤ x a ≡ sum_out x n arcs
own_out a n x row arcs e f =
    let mine : leaving x n a row ≡ x a = ap (λ (b : Bool). cond b (x a) (pos 0)) (eq-eqb row.from n f) in
    omega (arith, linear, mine, sum_other (leaving x n) a a 0 row arcs (omega arith) e)

pub own_in : (a n : ℕ) (x : ℕ → ℤ) (row : ArcRow) (arcs : List ArcRow) → slice_get arcs a ≡ Some row → row.to ≡ n → sum_other_in a x n arcs +ℤ x a ≡ sum_in x n arcs
own_in a n x row arcs e f =
    let mine : entering x n a row ≡ x a = ap (λ (b : Bool). cond b (x a) (pos 0)) (eq-eqb row.to n f) in
    omega (arith, linear, mine, sum_other (entering x n) a a 0 row arcs (omega arith) e)

-- ---- what leaves less what enters, as a sum over the arcs at the node
-- what an arc at the node n takes from it, where x of what leaves counts, and y of what enters
abbrev pub taken : ArcRow → ℕ → ℤ → ℤ → ℤ
taken row n z w = cond (row.from == n) z (neg_ℤ w)

abbrev pub taken_at : (x y : ℕ → ℤ) → List ArcRow → ℕ → ℕ → ℤ
taken_at x y all n a = option_map_or (λ row. taken row n (x a) (y a)) (slice_get all a) (pos 0)

abbrev pub sum_over : (ℕ → ℤ) → List ℕ → ℤ
sum_over f [] = pos 0
sum_over f (a ∷ rest) = f a +ℤ sum_over f rest

-- the rows are those of all arcs from i on, and each leads from a node to another
pub record IsRest (all : List ArcRow) (i : ℕ) (rows : List ArcRow) : Type 0 where
  pub same : (j : ℕ) → slice_get all (i + j) ≡ slice_get rows j
  pub apart : (j : ℕ) (row : ArcRow) → slice_get rows j ≡ Some row → row.from ≢ row.to

rest_later : (all : List ArcRow) (i : ℕ) (row : ArcRow) (rows : List ArcRow) → IsRest all i (row ∷ rows) → IsRest all (i + 1) rows
rest_later all i row rows h = record {
  same = λ j. ap (slice_get all) (let e : i + 1 + j ≡ i + suc j = omega arith in e) ∙ h.same (suc j);
  apart = λ j r e. h.apart (suc j) r e;
}

pub whole_rest : (all : List ArcRow) → ((a : ℕ) (row : ArcRow) → slice_get all a ≡ Some row → row.from ≢ row.to) → IsRest all 0 all
whole_rest all h = record {
  same = λ j. ap (slice_get all) (let e : 0 + j ≡ j = omega arith in e);
  apart = h;
}

one_more : (f t : Bool) → (f ≡ true → t ≡ true → ⊥) → (g : ℕ → ℤ) (i : ℕ) (rest : List ℕ) (z w O I : ℤ) → g i ≡ cond f z (neg_ℤ w) → sum_over g rest ≡ O -ℤ I
    → sum_over g (cond (f || t) (i ∷ rest) rest) ≡ (cond f z (pos 0) +ℤ O) -ℤ (cond t w (pos 0) +ℤ I)
one_more true true h g i rest z w O I e s = absurd (h refl refl)
one_more true false h g i rest z w O I e s = omega (arith, linear, e, s)
one_more false true h g i rest z w O I e s = omega (arith, linear, e, s)
one_more false false h g i rest z w O I e s = omega (arith, linear, e, s)

not_both : (a b n : ℕ) → a ≢ b → (a == n) ≡ true → (b == n) ≡ true → ⊥
not_both a b n apart p q = grind (arith, nat_tests)

net_from : (x y : ℕ → ℤ) (n : ℕ) (all : List ArcRow) (i : ℕ) (rows : List ArcRow) → IsRest all i rows
    → sum_over (taken_at x y all n) (arcs_from n i rows) ≡ sum_arcs (leaving x n) i rows -ℤ sum_arcs (entering y n) i rows
net_from x y n all i [] h = refl
net_from x y n all i (row ∷ rows) h =
    let here : slice_get all i ≡ Some row = ap (slice_get all) (let e : i ≡ i + 0 = omega arith in e) ∙ h.same 0 in
    one_more (row.from == n) (row.to == n) (not_both row.from row.to n (h.apart 0 row refl)) (taken_at x y all n) i (arcs_from n (i + 1) rows) (x i) (y i) (sum_arcs (leaving x n) (i + 1) rows) (sum_arcs (entering y n) (i + 1) rows)
    (ap (λ o. option_map_or (λ r. taken r n (x i) (y i)) o (pos 0)) here) (net_from x y n all (i + 1) rows (rest_later all i row rows h))

-- ---- the arcs at a node are arcs, and no more than there are
within_by : (b : Bool) (i m : ℕ) (rest : List ℕ) (k : ℕ) → ((j : ℕ) → j < length rest → get_or rest j 0 < i + 1 + m) → k < length (cond b (i ∷ rest) rest) → get_or (cond b (i ∷ rest) rest) k 0 < i + suc m
within_by true i m rest zero h l = omega arith
within_by true i m rest (suc k) h l = omega (arith, h k (omega arith))
within_by false i m rest k h l = omega (arith, h k l)

arcs_within : (n i : ℕ) (rows : List ArcRow) (k : ℕ) → k < length (arcs_from n i rows) → get_or (arcs_from n i rows) k 0 < i + length rows
arcs_within n i [] k l = absurd (omega arith)
arcs_within n i (row ∷ rows) k l = within_by (touches n row) i (length rows) (arcs_from n (i + 1) rows) k (arcs_within n (i + 1) rows) l

few_by : (b : Bool) (i m : ℕ) (rest : List ℕ) → length rest ≤ m → length (cond b (i ∷ rest) rest) ≤ suc m
few_by true i m rest h = omega arith
few_by false i m rest h = omega arith

arcs_few : (n i : ℕ) (rows : List ArcRow) → length (arcs_from n i rows) ≤ length rows
arcs_few n i [] = omega arith
arcs_few n i (row ∷ rows) = few_by (touches n row) i (length rows) (arcs_from n (i + 1) rows) (arcs_few n (i + 1) rows)

pub arc_within : (arcs : List ArcRow) (n k : ℕ) (at : List ℕ) → at ≡ arcs_at arcs n → k < length at → get_or at k 0 < length arcs
arc_within arcs n k at e l =
    let below = arcs_within n 0 arcs k (subst (λ (l0 : List ℕ). k < length l0) e l) in
    let same : get_or at k 0 ≡ get_or (arcs_at arcs n) k 0 = ap (λ (l0 : List ℕ). get_or l0 k 0) e in
    omega (arith, below, same)

pub few_at : (arcs : List ArcRow) (n : ℕ) (at : List ℕ) → at ≡ arcs_at arcs n → length at ≤ length arcs
few_at arcs n at e = omega (arith, arcs_few n 0 arcs, ap length e)

-- ---- a loop's sum over the arcs at the node, of terms of at most m
pub record NetSums (m : ℕ) (x y : ℕ → ℤ) (all : List ArcRow) (n : ℕ) (at : List ℕ) (k : ℕ) (total : ℤ) : Type 0 where
  pub sum : total ≡ sum_over (taken_at x y all n) (take k at)
  pub size : IsWithin (k * m) total

sum_more : (f : ℕ → ℤ) (k : ℕ) (xs : List ℕ) → k < length xs → sum_over f (take (suc k) xs) ≡ sum_over f (take k xs) +ℤ f (get_or xs k 0)
sum_more f k [] h = absurd (omega arith)
sum_more f zero (x ∷ xs) h = omega (arith, linear)
sum_more f (suc k) (x ∷ xs) h = omega (arith, linear, sum_more f k xs (omega arith))

pub net_none : (m : ℕ) (x y : ℕ → ℤ) (all : List ArcRow) (n : ℕ) (at : List ℕ) → NetSums m x y all n at 0 (pos 0)
net_none m x y all n at = record { sum = refl; size = omega arith }

pub taken_size : (row : ArcRow) (n m : ℕ) (z w : ℤ) → IsWithin m z → IsWithin m w → IsWithin m (taken row n z w)
taken_size row n m z w h k = by (row.from == n)
  where
    by : (b : Bool) → IsWithin m (cond b z (neg_ℤ w))
    by true = h
    by false = omega (arith, linear, k, within_parts, one_part w, one_part (neg_ℤ w))

pub net_step : (m : ℕ) (x y : ℕ → ℤ) (all : List ArcRow) (n : ℕ) (at : List ℕ) (k : ℕ) (total term z w : ℤ) (row : ArcRow) → NetSums m x y all n at k total → k < length at → slice_get all (get_or at k 0) ≡ Some row
    → z ≡ x (get_or at k 0) → w ≡ y (get_or at k 0) → IsWithin m term → term ≡ taken row n z w → NetSums m x y all n at (k + 1) (total +ℤ term)
net_step m x y all n at k total term z w row s h here value against small is =
    let more = sum_more (taken_at x y all n) k at h in
    let same : taken_at x y all n (get_or at k 0) ≡ term = ap (λ o. option_map_or (λ r. taken r n (x (get_or at k 0)) (y (get_or at k 0))) o (pos 0)) here ∙ ap (λ (v : ℤ). taken row n v (y (get_or at k 0))) (sym value) ∙ ap (λ (v : ℤ). taken row n z v) (sym against) ∙ sym is in
    record {
      sum = rw (add-one k) (omega (arith, linear, more, same, s.sum));
      size = omega (arith, sum_within total term (k * m) m s.size small);
    }

pub net_whole : (m : ℕ) (x y : ℕ → ℤ) (all : List ArcRow) (n : ℕ) (at : List ℕ) (total : ℤ) → IsRest all 0 all → at ≡ arcs_at all n → NetSums m x y all n at (length at) total → total ≡ sum_out x n all -ℤ sum_in y n all
net_whole m x y all n at total h e s =
    s.sum ∙ ap (sum_over (taken_at x y all n)) (take-length at ∙ e) ∙ net_from x y n all 0 all h
