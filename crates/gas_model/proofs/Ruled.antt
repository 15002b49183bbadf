-- The rulings of each arc, one set, decision and group at a time.
use Rattle.std.proofs.Common.{◌≡◌, ℕ, ◌+◌, ◌<◌, ◌==◌, Bool, true, false, cond, inl, inr, List, [], ◌∷◌, ◌++◌, length, take, get_or, refl, sym, ap, ◌∙◌, arith, append_assoc, get_or-set_same, get_or-set_other, length-set}
use Rattle.std.specs.Prelude.{slice_set}
use Rattle.std.proofs.lemmas.Bool.{cases_eq, cases_lt}
use Rattle.std.proofs.lemmas.Bool.Decides.{nat_tests}
use Rattle.std.proofs.lemmas.List.{append-nil, length-append, length-take-le, get_or_append_left}
use Rattle.std.proofs.Math.Seq.{get_or-append_seam}
use Rattle.base_types.specs.declared.states.Allow.{Allow}
use Rattle.gas_model.specs.declared.rows.Decision.{Decision}
use Rattle.gas_model.specs.declared.rows.Group.{Group}
use Rattle.gas_model.specs.declared.rows.Ruling.{Ruling}
use Rattle.gas_model.specs.Rulings.{rulings_in, rulings_by, rulings_from, rulings_at, one_ruling, Grew, KeepsRulings}
use Rattle.gas_model.proofs.Decided.{take_item}

-- nothing is added
pub grew_none : (lists : List (List Ruling)) → Grew (λ a. []) lists lists
grew_none lists = record { count = refl; each = λ a lt. sym (append-nil (get_or lists a [])) }

-- more is added to what was added
pub grew_more : (f g h : ℕ → List Ruling) (x y z : List (List Ruling)) → Grew f x y → Grew g y z → ((a : ℕ) → h a ≡ f a ++ g a) → Grew h x z
grew_more f g h x y z s t e = record {
  count = t.count ∙ s.count;
  each = λ a lt.
      let below : a < length y = (let c = s.count in omega (arith, c, lt)) in
      t.each a below ∙ ap (λ l. l ++ g a) (s.each a lt) ∙ append_assoc (get_or x a []) (f a) (g a) ∙ ap (λ l. get_or x a [] ++ l) (sym (e a));
}

-- one ruling is added
pub grew_one : (lists : List (List Ruling)) (arc : ℕ) (r : Ruling) → arc < length lists → Grew (one_ruling arc r) lists (slice_set lists arc (get_or lists arc [] ++ r ∷ []))
grew_one lists arc r lt = record {
  count = length-set lists arc _;
  each = λ a below. elim (cases_eq a arc) [
    | inl e ↦
        let t : (arc == a) ≡ true = grind (arith, nat_tests) in
        ap (λ k. get_or (slice_set lists arc (get_or lists arc [] ++ r ∷ [])) k []) e ∙ get_or-set_same lists arc _ [] lt
        ∙ ap (λ k. get_or lists k [] ++ r ∷ []) (sym e) ∙ ap (λ b. get_or lists a [] ++ cond b (r ∷ []) []) (sym t)
    | inr ne ↦
        let t : (arc == a) ≡ false = grind (arith, nat_tests) in
        get_or-set_other lists arc a _ [] ne ∙ sym (append-nil (get_or lists a [])) ∙ ap (λ b. get_or lists a [] ++ cond b (r ∷ []) []) (sym t)
  ];
}

-- one more set
rulings_in-more : (a k j : ℕ) (xs : List (ℕ × Allow)) (s : ℕ × Allow) → rulings_in a k j (xs ++ s ∷ []) ≡ rulings_in a k j xs ++ one_ruling s.0 (record { group = k; decision = j; allow = s.1 }) a
rulings_in-more a k j [] s = refl
rulings_in-more a k j (x ∷ xs) s = by (x.0 == a) (rulings_in-more a k j xs s)
  where
    by : (b : Bool) → rulings_in a k j (xs ++ s ∷ []) ≡ rulings_in a k j xs ++ one_ruling s.0 (record { group = k; decision = j; allow = s.1 }) a
        → cond b (record { group = k; decision = j; allow = x.1 } ∷ rulings_in a k j (xs ++ s ∷ [])) (rulings_in a k j (xs ++ s ∷ []))
        ≡ cond b (record { group = k; decision = j; allow = x.1 } ∷ rulings_in a k j xs) (rulings_in a k j xs) ++ one_ruling s.0 (record { group = k; decision = j; allow = s.1 }) a
    by true more = ap (λ l. record { group = k; decision = j; allow = x.1 } ∷ l) more
    by false more = more

-- one more decision
rulings_by-more : (a k j : ℕ) (ds : List Decision) (d : Decision) → rulings_by a k j (ds ++ d ∷ []) ≡ rulings_by a k j ds ++ rulings_in a k (j + length ds) d.sets
rulings_by-more a k j [] d = append-nil (rulings_in a k j d.sets) ∙ ap (λ n. rulings_in a k n d.sets) (omega arith)
rulings_by-more a k j (e ∷ ds) d =
    let last : j + 1 + length ds ≡ j + length (e ∷ ds) = omega arith in
    ap (λ l. rulings_in a k j e.sets ++ l) (rulings_by-more a k (j + 1) ds d)
    ∙ sym (append_assoc (rulings_in a k j e.sets) (rulings_by a k (j + 1) ds) (rulings_in a k (j + 1 + length ds) d.sets))
    ∙ ap (λ n. (rulings_in a k j e.sets ++ rulings_by a k (j + 1) ds) ++ rulings_in a k n d.sets) last

-- one more group
rulings_from-more : (a k : ℕ) (gs : List Group) (g : Group) → rulings_from a k (gs ++ g ∷ []) ≡ rulings_from a k gs ++ rulings_by a (k + length gs) 0 g.decisions
rulings_from-more a k [] g = append-nil (rulings_by a k 0 g.decisions) ∙ ap (λ n. rulings_by a n 0 g.decisions) (omega arith)
rulings_from-more a k (h ∷ gs) g =
    let last : k + 1 + length gs ≡ k + length (h ∷ gs) = omega arith in
    ap (λ l. rulings_by a k 0 h.decisions ++ l) (rulings_from-more a (k + 1) gs g)
    ∙ sym (append_assoc (rulings_by a k 0 h.decisions) (rulings_from a (k + 1) gs) (rulings_by a (k + 1 + length gs) 0 g.decisions))
    ∙ ap (λ n. (rulings_by a k 0 h.decisions ++ rulings_from a (k + 1) gs) ++ rulings_by a n 0 g.decisions) last

-- a turn of the loop over sets
pub sets_turn : (k j i : ℕ) (sets : List (ℕ × Allow)) (s : ℕ × Allow) (x y z : List (List Ruling)) → i < length sets → s ≡ get_or sets i s
    → Grew (λ a. rulings_in a k j (take i sets)) x y → Grew (one_ruling s.0 (record { group = k; decision = j; allow = s.1 })) y z
    → Grew (λ a. rulings_in a k j (take (i + 1) sets)) x z
sets_turn k j i sets s x y z lt is so_far one =
    grew_more _ _ _ x y z so_far one (λ a. ap (rulings_in a k j) (take_item sets i s lt is) ∙ rulings_in-more a k j (take i sets) s)

-- a turn of the loop over decisions
pub decisions_turn : (k i : ℕ) (ds : List Decision) (d : Decision) (x y z : List (List Ruling)) → i < length ds → d ≡ get_or ds i d
    → Grew (λ a. rulings_by a k 0 (take i ds)) x y → Grew (λ a. rulings_in a k i d.sets) y z → Grew (λ a. rulings_by a k 0 (take (i + 1) ds)) x z
decisions_turn k i ds d x y z lt is so_far one =
    let size : 0 + length (take i ds) ≡ i = (let n = length-take-le i ds (omega (arith, lt)) in omega (arith, n)) in
    grew_more _ _ _ x y z so_far one (λ a. ap (rulings_by a k 0) (take_item ds i d lt is) ∙ rulings_by-more a k 0 (take i ds) d ∙ ap (λ n. rulings_by a k 0 (take i ds) ++ rulings_in a k n d.sets) size)

-- a turn of the loop over groups
pub groups_turn : (i arcs : ℕ) (gs : List Group) (g : Group) (y z : List (List Ruling)) → i < length gs → g ≡ get_or gs i g
    → KeepsRulings y arcs (take i gs) → Grew (λ a. rulings_by a i 0 g.decisions) y z → KeepsRulings z arcs (take (i + 1) gs)
groups_turn i arcs gs g y z lt is kept grew =
    let size : 0 + length (take i gs) ≡ i = (let n = length-take-le i gs (omega (arith, lt)) in omega (arith, n)) in
    record {
      count = grew.count ∙ kept.count;
      each = λ a below.
          let long : a < length y = (let c = kept.count in omega (arith, c, below)) in
          grew.each a long ∙ ap (λ l. l ++ rulings_by a i 0 g.decisions) (kept.each a below)
          ∙ ap (λ n. rulings_at (take i gs) a ++ rulings_by a n 0 g.decisions) (sym size) ∙ sym (rulings_from-more a 0 (take i gs) g) ∙ ap (rulings_from a 0) (sym (take_item gs i g lt is));
    }

-- one more arc, of which nothing is said
pub kept_empty : (lists : List (List Ruling)) (count : ℕ) → KeepsRulings lists count [] → KeepsRulings (lists ++ [] ∷ []) (count + 1) []
kept_empty lists count s = record {
  count = let c = s.count in omega (arith, c, length-append lists ([] ∷ []));
  each = λ a h.
      let c = s.count in
      elim (cases_lt a count) [
        | inl lt ↦ get_or_append_left lists ([] ∷ []) [] a (omega (arith, c, lt)) ∙ s.each a lt
        | inr ge ↦
            let last : a ≡ length lists = omega (arith, c, ge, h) in
            ap (λ (k : ℕ). get_or (lists ++ [] ∷ []) k []) last ∙ get_or-append_seam lists [] [] []
      ];
}
