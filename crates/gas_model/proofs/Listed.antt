-- The arcs at each node, one arc at a time.
use Rattle.std.proofs.Common.{◌≡◌, ◌≢◌, ℕ, ◌<◌, ◌+◌, inl, inr, sym, refl, ap, subst, Some, ◌∙◌, arith, Bool, true, false, List, [], ◌∷◌, ◌++◌, length, get_or, cond, take, get_or-set_same, get_or-set_other, length-set}
use Rattle.std.specs.Prelude.{slice_get}
use Rattle.std.proofs.lemmas.Bool.{cases_eq, cases_lt}
use Rattle.std.proofs.lemmas.Bool.Decides.{nat_tests}
use Rattle.std.proofs.lemmas.List.{append-nil, length-append, length-take-le, take_more, get_or_append_left}
use Rattle.std.proofs.lemmas.Option.{slice_get_read}
use Rattle.std.proofs.Math.Seq.{get_or-append_seam}
use Rattle.gas_model.specs.declared.rows.ArcRow.{ArcRow}
use Rattle.gas_model.specs.Points.{touches, arcs_from, arcs_at}
use Rattle.gas_model.specs.Incidence.{noted, AreEnds, KeepsArcsAt}

-- one more arc
arcs_from-more : (n i : ℕ) (rows : List ArcRow) (row : ArcRow) → arcs_from n i (rows ++ row ∷ []) ≡ arcs_from n i rows ++ cond (touches n row) ((i + length rows) ∷ []) []
arcs_from-more n i [] row = by (touches n row)
  where
    by : (b : Bool) → cond b (i ∷ []) [] ≡ cond b ((i + 0) ∷ []) []
    by true = ap (λ (k : ℕ). k ∷ []) (omega arith)
    by false = refl
arcs_from-more n i (r ∷ rows) row =
    let last : i + 1 + length rows ≡ i + length (r ∷ rows) = omega arith in
    let more = arcs_from-more n (i + 1) rows row ∙ ap (λ (k : ℕ). arcs_from n (i + 1) rows ++ cond (touches n row) (k ∷ []) []) last in
    by (touches n r) more
  where
    by : (b : Bool) → arcs_from n (i + 1) (rows ++ row ∷ []) ≡ arcs_from n (i + 1) rows ++ cond (touches n row) ((i + length (r ∷ rows)) ∷ []) []
        → cond b (i ∷ arcs_from n (i + 1) (rows ++ row ∷ [])) (arcs_from n (i + 1) (rows ++ row ∷ []))
        ≡ cond b (i ∷ arcs_from n (i + 1) rows) (arcs_from n (i + 1) rows) ++ cond (touches n row) ((i + length (r ∷ rows)) ∷ []) []
    by true more = ap (λ (l : List ℕ). i ∷ l) more
    by false more = more

pub kept_more : (lists : List (List ℕ)) (nodes : ℕ) (rows : List ArcRow) (row : ArcRow) → row.from < nodes → row.to < nodes → row.from ≢ row.to
    → KeepsArcsAt lists nodes rows → KeepsArcsAt (noted (noted lists row.from (length rows)) row.to (length rows)) nodes (rows ++ row ∷ [])
kept_more lists nodes rows row hf ht ne s = record {
  count = length-set (noted lists row.from (length rows)) row.to _ ∙ length-set lists row.from _ ∙ s.count;
  each = λ n h.
      let a : ℕ = length rows in
      let one : List (List ℕ) = noted lists row.from a in
      let long : length one ≡ length lists = length-set lists row.from _ in
      let c = s.count in
      let more : arcs_at (rows ++ row ∷ []) n ≡ arcs_at rows n ++ cond (touches n row) (a ∷ []) [] = arcs_from-more n 0 rows row ∙ ap (λ (k : ℕ). arcs_at rows n ++ cond (touches n row) (k ∷ []) []) (omega arith) in
      elim (cases_eq n row.to) [
        | inl e ↦
            let t : touches n row ≡ true = grind (arith, nat_tests) in
            let off : row.to ≢ row.from = λ e1. ne (sym e1) in
            ap (λ (k : ℕ). get_or (noted one row.to a) k []) e ∙ get_or-set_same one row.to _ [] (omega arith)
            ∙ ap (λ (xs : List ℕ). xs ++ a ∷ []) (get_or-set_other lists row.from row.to _ [] off ∙ ap (λ (k : ℕ). get_or lists k []) (sym e) ∙ s.each n h)
            ∙ ap (λ (b : Bool). arcs_at rows n ++ cond b (a ∷ []) []) (sym t) ∙ sym more
        | inr e ↦ get_or-set_other one row.to n _ [] e ∙ elim (cases_eq n row.from) [
          | inl e1 ↦
              let t : touches n row ≡ true = grind (arith, nat_tests) in
              ap (λ (k : ℕ). get_or one k []) e1 ∙ get_or-set_same lists row.from _ [] (omega arith)
              ∙ ap (λ (xs : List ℕ). xs ++ a ∷ []) (ap (λ (k : ℕ). get_or lists k []) (sym e1) ∙ s.each n h)
              ∙ ap (λ (b : Bool). arcs_at rows n ++ cond b (a ∷ []) []) (sym t) ∙ sym more
          | inr e1 ↦
              let t : touches n row ≡ false = grind (arith, nat_tests) in
              get_or-set_other lists row.from n _ [] e1 ∙ s.each n h ∙ sym (append-nil _) ∙ ap (λ (b : Bool). arcs_at rows n ++ cond b (a ∷ []) []) (sym t) ∙ sym more
        ]
      ];
}

pub kept_none : (lists : List (List ℕ)) (count : ℕ) → KeepsArcsAt lists count [] → KeepsArcsAt (lists ++ [] ∷ []) (count + 1) []
kept_none lists count s = record {
  count = let c = s.count in omega (arith, c, length-append lists ([] ∷ []));
  each = λ n h.
      let c = s.count in
      elim (cases_lt n count) [
        | inl lt ↦ get_or_append_left lists ([] ∷ []) [] n (omega (arith, c, lt)) ∙ s.each n lt
        | inr ge ↦
            let last : n ≡ length lists = omega (arith, c, ge, h) in
            ap (λ (k : ℕ). get_or (lists ++ [] ∷ []) k []) last ∙ get_or-append_seam lists [] [] []
      ];
}

-- a turn of the loop over the arcs
pub kept_turn : (lists one two : List (List ℕ)) (nodes a : ℕ) (arcs : List ArcRow) (row : ArcRow) → AreEnds nodes arcs → a < length arcs → row ≡ get_or arcs a row
    → KeepsArcsAt lists nodes (take a arcs) → one ≡ noted lists row.from a → two ≡ noted one row.to a → KeepsArcsAt two nodes (take (a + 1) arcs)
kept_turn lists one two nodes a arcs row ends lt is s e1 e2 =
    let here : slice_get arcs a ≡ Some row = slice_get_read arcs (length arcs) a row refl lt is in
    let size : length (take a arcs) ≡ a = length-take-le a arcs (omega (arith, lt)) in
    let more : take (a + 1) arcs ≡ take a arcs ++ row ∷ [] = take_more arcs a row lt ∙ ap (λ (r : ArcRow). take a arcs ++ r ∷ []) (sym is) in
    let next = kept_more lists nodes (take a arcs) row (ends.from a row here) (ends.to a row here) (ends.apart a row here) s in
    let same : noted (noted lists row.from (length (take a arcs))) row.to (length (take a arcs)) ≡ two =
    ap (λ (k : ℕ). noted (noted lists row.from k) row.to k) size ∙ ap (λ (l : List (List ℕ)). noted l row.to a) (sym e1) ∙ sym e2 in
    subst (λ (l : List (List ℕ)). KeepsArcsAt l nodes (take (a + 1) arcs)) same (subst (λ (rows : List ArcRow). KeepsArcsAt (noted (noted lists row.from (length (take a arcs))) row.to (length (take a arcs))) nodes rows) (sym more) next)
