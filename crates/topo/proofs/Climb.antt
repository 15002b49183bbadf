-- A way up, halved.
use Rattle.std.proofs.Common.{◌≡◌, ◌≢◌, ℕ, ◌<◌, ◌≤◌, ◌+◌, ◌⊎◌, inl, inr, sym, ap, ◌∙◌, arith, List, length, slice_index, get_or, set, get_or-set_same, get_or-set_other, length-set, subst, cond, max, min, ◌==◌}
use Rattle.std.proofs.lemmas.Bool.Decides.{nat_tests}
use Rattle.std.proofs.lemmas.Grind.{common_steps}
use Rattle.std.proofs.lemmas.Bool.{cases_eq}
use Rattle.topo.specs.Forests.{PointsDown, Labels, merged}

-- on the way from node, at is reached, and up was halved from old
pub record Halved (old up : List ℕ) (node at : ℕ) : Type 0 where
  pub same : length up ≡ length old
  pub within : at ≤ node
  pub down : PointsDown up
  pub labels : (label : ℕ → ℕ) → Labels old label → Labels up label × (label at ≡ label node)
  pub tops : (n : ℕ) → slice_index old n ≡ n → slice_index up n ≡ n

pub halved_down : (up : List ℕ) (at over : ℕ) → at < length up → PointsDown up → over ≤ at → PointsDown (set up at over)
halved_down up at over h d le n hn =
    elim (cases_eq n at) [ inl e ↦ grind (arith, common_steps, get_or-set_same up at over 0 h) | inr e ↦ grind (arith, common_steps, get_or-set_other up at n over 0 e, d n) ]

pub halved_labels : (up : List ℕ) (at over : ℕ) (label : ℕ → ℕ) → at < length up → over < at → label over ≡ label at → Labels up label → Labels (set up at over) label
halved_labels up at over label h lt e l = record {
  along = λ n hn. elim (cases_eq n at) [
    | inl e1 ↦ ap label (ap (λ (k : ℕ). get_or (set up at over) k 0) e1 ∙ get_or-set_same up at over 0 h) ∙ e ∙ ap label (sym e1)
    | inr e1 ↦ ap label (get_or-set_other up at n over 0 e1) ∙ l.along n (simp length-set at hn)
  ];
  ends = λ n hn eq. elim (cases_eq n at) [
    | inl e1 ↦ absurd (let h1 : get_or (set up at over) n 0 ≡ over = ap (λ (k : ℕ). get_or (set up at over) k 0) e1 ∙ get_or-set_same up at over 0 h in omega arith)
    | inr e1 ↦ l.ends n (simp length-set at hn) (sym (get_or-set_other up at n over 0 e1) ∙ eq)
  ];
}

pub halved_step : (old up : List ℕ) (node at : ℕ) → node < length old → Halved old up node at → get_or up at 0 ≢ at → Halved old (set up at (get_or up (get_or up at 0) 0)) node (get_or up (get_or up at 0) 0)
halved_step old up node at hn s ne =
    let in_at : at < length up = omega (arith, s.same, s.within) in
    let up1 : get_or up at 0 ≤ at = s.down at in_at in
    let in_one : get_or up at 0 < length up = omega arith in
    let up2 : get_or up (get_or up at 0) 0 ≤ get_or up at 0 = s.down _ in_one in
    let lt : get_or up (get_or up at 0) 0 < at = omega arith in
    record {
      same = length-set up at _ ∙ s.same;
      within = omega (arith, s.within);
      down = halved_down up at _ in_at s.down (omega arith);
      labels = λ label l0.
          let l = s.labels label l0 in
          let e : label (get_or up (get_or up at 0) 0) ≡ label at = l.0.along _ in_one ∙ l.0.along at in_at in
          (halved_labels up at _ label in_at lt e l.0, e ∙ l.1);
      tops = λ n e.
          let top : get_or up n 0 ≡ n = s.tops n e in
          let other : n ≢ at = λ e1. ne (subst (λ (k : ℕ). get_or up k 0 ≡ k) e1 top) in
          get_or-set_other up at n _ 0 other ∙ top;
    }

-- the nodes before n point at their ends
pub record Flattened (old up : List ℕ) (n : ℕ) : Type 0 where
  pub same : length up ≡ length old
  pub down : PointsDown up
  pub labels : (label : ℕ → ℕ) → Labels old label → Labels up label
  pub flat : (label : ℕ → ℕ) → Labels old label → (k : ℕ) → k < n → slice_index up k ≡ label k

-- a write of a node with the same label, where an end stays an end
set_labels : (up : List ℕ) (at over : ℕ) (label : ℕ → ℕ) → at < length up → label over ≡ label at → (over ≡ at → label at ≡ at) → Labels up label → Labels (set up at over) label
set_labels up at over label h e top l = record {
  along = λ n hn. elim (cases_eq n at) [
    | inl e1 ↦ ap label (ap (λ (k : ℕ). get_or (set up at over) k 0) e1 ∙ get_or-set_same up at over 0 h) ∙ e ∙ ap label (sym e1)
    | inr e1 ↦ ap label (get_or-set_other up at n over 0 e1) ∙ l.along n (simp length-set at hn)
  ];
  ends = λ n hn eq. elim (cases_eq n at) [
    | inl e1 ↦ let h1 : get_or (set up at over) n 0 ≡ over = ap (λ (k : ℕ). get_or (set up at over) k 0) e1 ∙ get_or-set_same up at over 0 h in ap label e1 ∙ top (sym h1 ∙ eq ∙ e1) ∙ sym e1
    | inr e1 ↦ l.ends n (simp length-set at hn) (sym (get_or-set_other up at n over 0 e1) ∙ eq)
  ];
}

pub flattened_step : (old up : List ℕ) (n : ℕ) → n < length up → Flattened old up n → Flattened old (set up n (get_or up (get_or up n 0) 0)) (n + 1)
flattened_step old up n hn s =
    let one : get_or up n 0 ≤ n = s.down n hn in
    let two : get_or up (get_or up n 0) 0 ≤ get_or up n 0 = s.down _ (omega arith) in
    let same_end : (label : ℕ → ℕ) → Labels old label → label (get_or up (get_or up n 0) 0) ≡ label n = λ label l0. let l = s.labels label l0 in l.along _ (omega arith) ∙ l.along n hn in
    let sure : (label : ℕ → ℕ) → Labels old label → get_or up (get_or up n 0) 0 ≡ n → label n ≡ n = λ label l0 e. (s.labels label l0).ends n hn (omega arith) in
    let flat_here : (label : ℕ → ℕ) → Labels old label → get_or up (get_or up n 0) 0 ≡ label n = λ label l0. elim (cases_eq (get_or up n 0) n) [
      | inl e ↦ ap (λ (k : ℕ). get_or up k 0) e ∙ e ∙ sym ((s.labels label l0).ends n hn e)
      | inr e ↦ s.flat label l0 (get_or up n 0) (omega arith) ∙ (s.labels label l0).along n hn
    ] in
    record {
      same = length-set up n _ ∙ s.same;
      down = halved_down up n _ hn s.down (omega arith);
      labels = λ label l0. set_labels up n _ label hn (same_end label l0) (sure label l0) (s.labels label l0);
      flat = λ label l0 k h. elim (cases_eq k n) [
        | inl e ↦ ap (λ (i : ℕ). get_or (set up n (get_or up (get_or up n 0) 0)) i 0) e ∙ get_or-set_same up n _ 0 hn ∙ flat_here label l0 ∙ ap label (sym e)
        | inr e ↦ get_or-set_other up n k _ 0 e ∙ s.flat label l0 k (omega arith)
      ];
    }

-- the second end points at the first
pub joined_labels : (up : List ℕ) (label : ℕ → ℕ) (m n lo hi : ℕ) → hi < length up → lo < hi → Labels up label → slice_index up lo ≡ lo → slice_index up hi ≡ hi → ((label m ≡ lo) × (label n ≡ hi)) ⊎ ((label m ≡ hi) × (label n ≡ lo)) → Labels (set up hi lo) (merged label m n)
joined_labels up label m n lo hi h lt l elo ehi c =
    let llo : label lo ≡ lo = l.ends lo (omega arith) elo in
    let lhi : label hi ≡ hi = l.ends hi h ehi in
    let is_lo : merged label m n lo ≡ lo = grind (arith, nat_tests, llo, c) in
    let is_hi : merged label m n hi ≡ lo = grind (arith, nat_tests, lhi, c) in
    record {
      along = λ k hk. elim (cases_eq k hi) [
        | inl e ↦ ap (merged label m n) (ap (λ (i : ℕ). get_or (set up hi lo) i 0) e ∙ get_or-set_same up hi lo 0 h) ∙ is_lo ∙ sym is_hi ∙ ap (merged label m n) (sym e)
        | inr e ↦ ap (merged label m n) (get_or-set_other up hi k lo 0 e) ∙ ap (λ (i : ℕ). cond (i == max (label m) (label n)) (min (label m) (label n)) i) (l.along k (simp length-set at hk))
      ];
      ends = λ k hk eq. elim (cases_eq k hi) [
        | inl e ↦ absurd (let h1 : get_or (set up hi lo) k 0 ≡ lo = ap (λ (i : ℕ). get_or (set up hi lo) i 0) e ∙ get_or-set_same up hi lo 0 h in omega arith)
        | inr e ↦ let lk : label k ≡ k = l.ends k (simp length-set at hk) (sym (get_or-set_other up hi k lo 0 e) ∙ eq) in grind (arith, nat_tests, lk, c)
      ];
    }

-- nothing changes where both have one label
pub same_labels : (up : List ℕ) (label : ℕ → ℕ) (m n : ℕ) → label m ≡ label n → Labels up label → Labels up (merged label m n)
same_labels up label m n e l =
    let same : (k : ℕ) → merged label m n k ≡ label k = λ k. grind (arith, nat_tests) in
    record {
      along = λ k h. same _ ∙ l.along k h ∙ sym (same k);
      ends = λ k h eq. same k ∙ l.ends k h eq;
    }
