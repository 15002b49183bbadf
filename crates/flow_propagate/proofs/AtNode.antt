-- The list of the arcs at a node: each arc at it stands there, and they ascend.
use Rattle.std.proofs.Common.{◌≡◌, ◌≢◌, ◌⊎◌, ℕ, zero, suc, ◌+◌, ◌<◌, ◌≤◌, refl, sym, ap, ◌∙◌, subst, inl, inr, arith, Bool, true, false, cond, List, [], ◌∷◌, length, get_or, Some}
use Rattle.std.specs.Prelude.{slice_get}
use Rattle.std.proofs.lemmas.Bool.{cases_lt}
use Rattle.gas_model.specs.declared.rows.ArcRow.{ArcRow}
use Rattle.gas_model.specs.Points.{touches, arcs_from, arcs_at}

-- ---- members
pub record StandsAt (at : List ℕ) (i : ℕ) : Type 0 where
  pub k : ℕ
  pub within : k < length at
  pub is : get_or at k 0 ≡ i

later_stands : (b : Bool) (i j : ℕ) (rest : List ℕ) → StandsAt rest j → StandsAt (cond b (i ∷ rest) rest) j
later_stands true i j rest h = record { k = suc h.k; within = omega (arith, h.within); is = h.is }
later_stands false i j rest h = h

here_stands : (b : Bool) (i : ℕ) (rest : List ℕ) → b ≡ true → StandsAt (cond b (i ∷ rest) rest) i
here_stands true i rest h = record { k = 0; within = omega arith; is = refl }
here_stands false i rest h = absurd cc

stands_from : (n i : ℕ) (rows : List ArcRow) (j : ℕ) (row : ArcRow) → slice_get rows j ≡ Some row → touches n row ≡ true → StandsAt (arcs_from n i rows) (i + j)
stands_from n i [] j row e t = absurd (cc)
stands_from n i (first ∷ rows) zero row e t =
    let same : first ≡ row = cc in
    let at : touches n first ≡ true = ap (touches n) same ∙ t in
    subst (StandsAt (arcs_from n i (first ∷ rows))) (let k : i ≡ i + 0 = omega arith in k) (here_stands (touches n first) i (arcs_from n (i + 1) rows) at)
stands_from n i (first ∷ rows) (suc j) row e t =
    subst (StandsAt (arcs_from n i (first ∷ rows))) (let k : i + 1 + j ≡ i + suc j = omega arith in k) (later_stands (touches n first) i (i + 1 + j) (arcs_from n (i + 1) rows) (stands_from n (i + 1) rows j row e t))

pub stands_at : (arcs : List ArcRow) (n j : ℕ) (row : ArcRow) (at : List ℕ) → at ≡ arcs_at arcs n → slice_get arcs j ≡ Some row → touches n row ≡ true → StandsAt at j
stands_at arcs n j row at same e t =
    subst (λ (l : List ℕ). StandsAt l j) (sym same) (subst (StandsAt (arcs_at arcs n)) (let k : 0 + j ≡ j = omega arith in k) (stands_from n 0 arcs j row e t))

-- ---- their order
above_by : (b : Bool) (i : ℕ) (rest : List ℕ) (k : ℕ) → ((j : ℕ) → j < length rest → i + 1 ≤ get_or rest j 0) → k < length (cond b (i ∷ rest) rest) → i ≤ get_or (cond b (i ∷ rest) rest) k 0
above_by true i rest zero h l = omega arith
above_by true i rest (suc k) h l = omega (arith, h k (omega arith))
above_by false i rest k h l = omega (arith, h k l)

above_from : (n i : ℕ) (rows : List ArcRow) (k : ℕ) → k < length (arcs_from n i rows) → i ≤ get_or (arcs_from n i rows) k 0
above_from n i [] k l = absurd (omega arith)
above_from n i (row ∷ rows) k l = above_by (touches n row) i (arcs_from n (i + 1) rows) k (above_from n (i + 1) rows) l

ascend_by : (b : Bool) (i : ℕ) (rest : List ℕ) (j k : ℕ) → ((m : ℕ) → m < length rest → i + 1 ≤ get_or rest m 0) → ((l m : ℕ) → l < m → m < length rest → get_or rest l 0 < get_or rest m 0)
    → j < k → k < length (cond b (i ∷ rest) rest) → get_or (cond b (i ∷ rest) rest) j 0 < get_or (cond b (i ∷ rest) rest) k 0
ascend_by true i rest j zero above h l w = absurd (omega arith)
ascend_by true i rest zero (suc k) above h l w = omega (arith, above k (omega arith))
ascend_by true i rest (suc j) (suc k) above h l w = h j k (omega arith) (omega arith)
ascend_by false i rest j k above h l w = h j k l w

ascend_from : (n i : ℕ) (rows : List ArcRow) (j k : ℕ) → j < k → k < length (arcs_from n i rows) → get_or (arcs_from n i rows) j 0 < get_or (arcs_from n i rows) k 0
ascend_from n i [] j k l w = absurd (omega arith)
ascend_from n i (row ∷ rows) j k l w = ascend_by (touches n row) i (arcs_from n (i + 1) rows) j k (above_from n (i + 1) rows) (ascend_from n (i + 1) rows) l w

-- a smaller arc stands earlier
pub earlier : (arcs : List ArcRow) (n j k : ℕ) (at : List ℕ) → at ≡ arcs_at arcs n → j < length at → get_or at j 0 < get_or at k 0 → j < k
earlier arcs n j k at same w l =
    elim (cases_lt j k) [
      | inl less ↦ less
      | inr more ↦ absurd (not_after (cases_lt k j) more)
    ]
  where
    not_after : (k < j) ⊎ (j ≤ k) → k ≤ j → ⊥
    not_after (inl less) m =
        let there : get_or (arcs_at arcs n) k 0 < get_or (arcs_at arcs n) j 0 = ascend_from n 0 arcs k j less (omega (arith, ap length same)) in
        let x : get_or at k 0 ≡ get_or (arcs_at arcs n) k 0 = ap (λ (z : List ℕ). get_or z k 0) same in
        let y : get_or at j 0 ≡ get_or (arcs_at arcs n) j 0 = ap (λ (z : List ℕ). get_or z j 0) same in
        omega (arith, there, x, y)
    not_after (inr more) m =
        let e : j ≡ k = omega arith in
        let x : get_or at j 0 ≡ get_or at k 0 = ap (λ (z : ℕ). get_or at z 0) e in
        omega (arith, x)

-- what stands in the list is an arc at the node
touch_by : (b : Bool) (i : ℕ) (rest : List ℕ) (k : ℕ) (P : ℕ → Type 0) → (b ≡ true → P i) → ((j : ℕ) → j < length rest → P (get_or rest j 0)) → k < length (cond b (i ∷ rest) rest) → P (get_or (cond b (i ∷ rest) rest) k 0)
touch_by true i rest zero P h r l = h refl
touch_by true i rest (suc k) P h r l = r k (omega arith)
touch_by false i rest k P h r l = r k l

touch_from : (all : List ArcRow) (n i : ℕ) (rows : List ArcRow) → ((j : ℕ) → slice_get all (i + j) ≡ slice_get rows j) → (k : ℕ) → k < length (arcs_from n i rows) → (row : ArcRow) → slice_get all (get_or (arcs_from n i rows) k 0) ≡ Some row → touches n row ≡ true
touch_from all n i [] same k l = absurd (omega arith)
touch_from all n i (first ∷ rows) same k l =
    touch_by (touches n first) i (arcs_from n (i + 1) rows) k (λ (m : ℕ). (row : ArcRow) → slice_get all m ≡ Some row → touches n row ≡ true)
    (λ t row e. let here : slice_get all i ≡ Some first = ap (slice_get all) (let z : i ≡ i + 0 = omega arith in z) ∙ same 0 in let s : first ≡ row = cc in ap (touches n) (sym s) ∙ t)
    (touch_from all n (i + 1) rows (λ j. ap (slice_get all) (let z : i + 1 + j ≡ i + suc j = omega arith in z) ∙ same (suc j))) l

pub at_touches : (arcs : List ArcRow) (n k : ℕ) (row : ArcRow) (at : List ℕ) → at ≡ arcs_at arcs n → k < length at → slice_get arcs (get_or at k 0) ≡ Some row → touches n row ≡ true
at_touches arcs n k row at same l e =
    touch_from arcs n 0 arcs (λ j. ap (slice_get arcs) (let z : 0 + j ≡ j = omega arith in z)) k (subst (λ (z : List ℕ). k < length z) same l) row (ap (λ (z : List ℕ). slice_get arcs (get_or z k 0)) (sym same) ∙ e)
