-- The arcs at the nodes of a cut are all that join these to others.
use Rattle.std.proofs.Common.{◌≡◌, ℕ, zero, suc, ◌+◌, ◌<◌, ◌≤◌, ◌⊎◌, inl, inr, refl, sym, ap, ◌∙◌, arith, Bool, true, false, cond, not, ◌&&◌, ◌==◌, List, [], ◌∷◌, ◌++◌, length, take, drop, get_or, Option, None, Some, replicate, get_or-set_same, get_or-set_other, length-set}
use Rattle.std.specs.Prelude.{◌||◌, slice_get, slice_set}
use Rattle.std.specs.List.{list_all}
use Rattle.std.specs.Option.{option_map_or}
use Rattle.std.proofs.lemmas.Bool.{and_parts, and_from, or_cases, cases_Bool, cases_eq, eqb-true, eq-eqb, ne_eqb}
use Rattle.std.proofs.Math.Seq.{drop-cons}
use Rattle.std.proofs.lemmas.List.{take_more, drop_all}
use Rattle.std.proofs.lemmas.List.Folds.{list_any-append}
use Rattle.gas_model.specs.declared.rows.ArcRow.{ArcRow}
use Rattle.gas_model.specs.Points.{touches, arcs_from, arcs_at}
use Rattle.tree_rules.specs.NodeRules.{is_cut_node, crosses, all_arcs}
use Rattle.tree_check.specs.Cuts.{passes_at, AreMarks}

-- ---- marks
no_marks : (marks : List Bool) → length marks ≡ 2000 → ((n : ℕ) → get_or marks n false ≡ false) → AreMarks marks []
no_marks marks l e = record { count = l; each = λ n h. e n }

-- one more node is marked
pub mark_more : (marks : List Bool) (ns : List ℕ) (k n : ℕ) → AreMarks marks (take k ns) → k < length ns → n ≡ get_or ns k 0 → n < 2000 → AreMarks (slice_set marks n true) (take (k + 1) ns)
mark_more marks ns k n h l is within = record {
  count = length-set marks n true ∙ h.count;
  each = λ m below.
      let more : take (k + 1) ns ≡ take k ns ++ n ∷ [] = take_more ns k 0 l ∙ ap (λ (j : ℕ). take k ns ++ j ∷ []) (sym is) in
      let here : is_cut_node (take (k + 1) ns) m ≡ (is_cut_node (take k ns) m || ((n == m) || false)) = ap (λ (l0 : List ℕ). is_cut_node l0 m) more ∙ list_any-append (λ j. j == m) (take k ns) (n ∷ []) in
      elim (cases_eq m n) [
        | inl e ↦ ap (λ (j : ℕ). get_or (slice_set marks n true) j false) e ∙ get_or-set_same marks n true false (omega (arith, h.count, within))
            ∙ sym (or_true (is_cut_node (take k ns) m)) ∙ ap (λ (b : Bool). is_cut_node (take k ns) m || (b || false)) (sym (eq-eqb n m (sym e))) ∙ sym here
        | inr ne ↦ get_or-set_other marks n m true false ne ∙ h.each m below ∙ sym (or_false (is_cut_node (take k ns) m))
            ∙ ap (λ (b : Bool). is_cut_node (take k ns) m || (b || false)) (sym (ne_eqb n m (λ e. ne (sym e)))) ∙ sym here
      ];
}
  where
    or_true : (b : Bool) → (b || true) ≡ true
    or_true true = refl
    or_true false = refl

    or_false : (b : Bool) → (b || false) ≡ b
    or_false true = refl
    or_false false = refl

-- ---- a test of all items, one at a time
pub all_more : {X : Type 0} (test : X → Bool) (xs : List X) (k : ℕ) (d : X) → k < length xs → test (get_or xs k d) ≡ true → list_all test (drop k xs) ≡ list_all test (drop (suc k) xs)
all_more test xs k d l t = ap (list_all test) (drop-cons xs k d l) ∙ ap (λ (b : Bool). b && list_all test (drop (suc k) xs)) t

pub all_stops : {X : Type 0} (test : X → Bool) (xs : List X) (k : ℕ) (d : X) → k < length xs → test (get_or xs k d) ≡ false → list_all test (drop k xs) ≡ false
all_stops test xs k d l t = ap (list_all test) (drop-cons xs k d l) ∙ ap (λ (b : Bool). b && list_all test (drop (suc k) xs)) t

pub all_end : {X : Type 0} (test : X → Bool) (xs : List X) (k : ℕ) → length xs ≤ k → list_all test (drop k xs) ≡ true
all_end test xs k l = ap (list_all test) (drop_all k xs l)

-- ---- the arcs at a node
touching_by : (f : ℕ → Bool) (here : Bool) (i : ℕ) (rest : List ℕ) → list_all f (cond here (i ∷ rest) rest) ≡ true → list_all f rest ≡ true
touching_by f true i rest h = (and_parts (f i) (list_all f rest) h).1
touching_by f false i rest h = h

touching_from : (f : ℕ → Bool) (n i j : ℕ) (rows : List ArcRow) (row : ArcRow) → slice_get rows j ≡ Some row → touches n row ≡ true → list_all f (arcs_from n i rows) ≡ true → f (i + j) ≡ true
touching_from f n i j [] row e t h = absurd cc
touching_from f n i zero (r ∷ rows) row e t h =
    let same : r ≡ row = cc in
    let first : list_all f (i ∷ arcs_from n (i + 1) rows) ≡ true = ap (λ (b : Bool). list_all f (cond b (i ∷ arcs_from n (i + 1) rows) (arcs_from n (i + 1) rows))) (sym (ap (touches n) same ∙ t)) ∙ h in
    ap f (let e0 : i + 0 ≡ i = omega arith in e0) ∙ (and_parts (f i) (list_all f (arcs_from n (i + 1) rows)) first).0
touching_from f n i (suc j) (r ∷ rows) row e t h =
    ap f (let e0 : i + suc j ≡ i + 1 + j = omega arith in e0) ∙ touching_from f n (i + 1) j rows row e t (touching_by f (touches n r) i (arcs_from n (i + 1) rows) h)

-- the test of an arc that was read there
pub passes_row : (test : ℕ → ArcRow → Bool) (arcs : List ArcRow) (a : ℕ) (row : ArcRow) → slice_get arcs a ≡ Some row → passes_at test arcs a ≡ test a row
passes_row test arcs a row e = ap (λ (o : Option ArcRow). option_map_or (test a) o true) e

-- ---- tests of all arcs
from_each : (test : ℕ → ArcRow → Bool) (i : ℕ) (rows : List ArcRow) → ((j : ℕ) (row : ArcRow) → slice_get rows j ≡ Some row → test (i + j) row ≡ true) → all_arcs test i rows ≡ true
from_each test i [] h = refl
from_each test i (row ∷ rows) h =
    and_from (test i row) (all_arcs test (i + 1) rows) (ap (λ (k : ℕ). test k row) (let e : i ≡ i + 0 = omega arith in e) ∙ h 0 row refl)
    (from_each test (i + 1) rows (λ j r e. ap (λ (k : ℕ). test k r) (let s : i + 1 + j ≡ i + suc j = omega arith in s) ∙ h (suc j) r e))

at_each : (test : ℕ → ArcRow → Bool) (i : ℕ) (rows : List ArcRow) (j : ℕ) (row : ArcRow) → all_arcs test i rows ≡ true → slice_get rows j ≡ Some row → test (i + j) row ≡ true
at_each test i [] j row h e = absurd cc
at_each test i (r ∷ rows) zero row h e =
    let same : r ≡ row = cc in
    ap (λ (k : ℕ). test k row) (let s : i + 0 ≡ i = omega arith in s) ∙ ap (test i) (sym same) ∙ (and_parts (test i r) (all_arcs test (i + 1) rows) h).0
at_each test i (r ∷ rows) (suc j) row h e =
    ap (λ (k : ℕ). test k row) (let s : i + suc j ≡ i + 1 + j = omega arith in s) ∙ at_each test (i + 1) rows j row (and_parts (test i r) (all_arcs test (i + 1) rows) h).1 e

-- ---- nodes of a list
-- what each number of a list passes, one among them passes
passes_among : (f : ℕ → Bool) (ns : List ℕ) (n : ℕ) → list_all f ns ≡ true → is_cut_node ns n ≡ true → f n ≡ true
passes_among f [] n h e = absurd cc
passes_among f (m ∷ ns) n h e =
    let p = and_parts (f m) (list_all f ns) h in
    elim (or_cases (m == n) (is_cut_node ns n) e) [
      | inl here ↦ ap f (sym (eqb-true m n here)) ∙ p.0
      | inr later ↦ passes_among f ns n p.1 later
    ]

always : (f : ℕ → Bool) (ns : List ℕ) → ((n : ℕ) → f n ≡ true) → list_all f ns ≡ true
always f [] h = refl
always f (n ∷ ns) h = and_from (f n) (list_all f ns) (h n) (always f ns h)

same_tests : (a b : Bool) → (a ≡ true → b ≡ true) → (b ≡ true → a ≡ true) → a ≡ b
same_tests true b f g = sym (f refl)
same_tests false true f g = g refl
same_tests false false f g = refl

-- the arcs at each of the nodes
abbrev pub passes_at_nodes : (ℕ → ArcRow → Bool) → List ArcRow → ℕ → Bool
passes_at_nodes test arcs n = list_all (passes_at test arcs) (arcs_at arcs n)

-- an arc that joins some of the nodes to others is at one of them
crossing_end : (a b : Bool) → cond a (not b) b ≡ true → (a ≡ true) ⊎ (b ≡ true)
crossing_end true b h = inl refl
crossing_end false b h = inr h

module _ (test : ℕ → ArcRow → Bool) (arcs : List ArcRow) (ns : List ℕ) (free : (a : ℕ) (row : ArcRow) → slice_get arcs a ≡ Some row → crosses ns row ≡ false → test a row ≡ true) where
  at_end : (a n : ℕ) (row : ArcRow) → slice_get arcs a ≡ Some row → touches n row ≡ true → is_cut_node ns n ≡ true → list_all (passes_at_nodes test arcs) ns ≡ true → test a row ≡ true
  at_end a n row e t c h =
      let at : list_all (passes_at test arcs) (arcs_at arcs n) ≡ true = passes_among (passes_at_nodes test arcs) ns n h c in
      let passed : passes_at test arcs (0 + a) ≡ true = touching_from (passes_at test arcs) n 0 a arcs row e t at in
      ap (λ (o : Option ArcRow). option_map_or (test a) o true) (sym e) ∙ ap (passes_at test arcs) (let s : a ≡ 0 + a = omega arith in s) ∙ passed

  each_passes : list_all (passes_at_nodes test arcs) ns ≡ true → (a : ℕ) (row : ArcRow) → slice_get arcs a ≡ Some row → test a row ≡ true
  each_passes h a row e = elim (cases_Bool (crosses ns row)) [
    | inr off ↦ free a row e off
    | inl on ↦ elim (crossing_end (is_cut_node ns row.from) (is_cut_node ns row.to) on) [
      | inl from ↦ at_end a row.from row e (ap (λ (b : Bool). b || (row.to == row.from)) (eq-eqb row.from row.from refl)) from h
      | inr to ↦ at_end a row.to row e (or_true (row.from == row.to) (eq-eqb row.to row.to refl)) to h
    ]
  ]
    where
      or_true : (b : Bool) {c : Bool} → c ≡ true → (b || c) ≡ true
      or_true true h = refl
      or_true false h = h

  no_row : (a : ℕ) → all_arcs test 0 arcs ≡ true → passes_at test arcs a ≡ true
  no_row a h = by (slice_get arcs a) refl
    where
      by : (o : Option ArcRow) → slice_get arcs a ≡ o → passes_at test arcs a ≡ true
      by None e = ap (λ (o : Option ArcRow). option_map_or (test a) o true) e
      by (Some row) e = ap (λ (o : Option ArcRow). option_map_or (test a) o true) e ∙ ap (λ (k : ℕ). test k row) (let s : a ≡ 0 + a = omega arith in s) ∙ at_each test 0 arcs a row h e

  pub at_nodes_alone : list_all (passes_at_nodes test arcs) ns ≡ all_arcs test 0 arcs
  at_nodes_alone =
      same_tests (list_all (passes_at_nodes test arcs) ns) (all_arcs test 0 arcs)
      (λ h. from_each test 0 arcs (λ j row e. ap (λ (k : ℕ). test k row) (let s : 0 + j ≡ j = omega arith in s) ∙ each_passes h j row e))
      (λ h. always (passes_at_nodes test arcs) ns (λ n. always (passes_at test arcs) (arcs_at arcs n) (λ a. no_row a h)))

-- nothing is marked at first
unmarked : (m n : ℕ) → get_or (replicate m false) n false ≡ false
unmarked zero n = refl
unmarked (suc m) zero = refl
unmarked (suc m) (suc n) = unmarked m n

as_many : (m : ℕ) → length (replicate m false) ≡ m
as_many zero = refl
as_many (suc m) = ap suc (as_many m)

pub first_marks : AreMarks (replicate 2000 false) []
first_marks = no_marks (replicate 2000 false) (as_many 2000) (unmarked 2000)
