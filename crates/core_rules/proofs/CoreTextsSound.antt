-- What is cited is listed by the text of a core, so each problem that agrees at what the text lists is infeasible.
use Rattle.std.proofs.Common.{◌≡◌, ◌⊎◌, inl, inr, ℕ, zero, suc, ◌+◌, ◌<◌, ◌≤◌, refl, sym, ap, ◌∙◌, subst, arith, Bool, true, false, cond, IsTrue, List, [], ◌∷◌, ◌++◌, append_assoc, length, slice_get, option_map}
use Rattle.std.specs.Prelude.{codes}
use Rattle.std.specs.List.{flat_map, range_with_len}
use Rattle.std.proofs.lemmas.Grind.{flat_map-append}
use Rattle.std.proofs.lemmas.Bool.{cases_lt}
use Rattle.std.proofs.lemmas.List.{append-nil, length-map}
use Rattle.std.proofs.lemmas.Option.{slice_get_past}
use Rattle.base_types.specs.declared.variables.Var.TheVariants.{Flow, Square}
use Rattle.gas_model.specs.Rows.{Network}
use Rattle.core_rules.specs.Reads.{Item, Supply, Law, End}
use Rattle.core_rules.specs.Cores.{is_among, blank_arc, blank_node, supply_of, flow_bound, pressure_bound, kind_of, SameShape, SameAt}
use Rattle.core_rules.specs.CoreTexts.{item_words, item_line, each_place, supplies_at, laws_at, flows_at, squares_at, items_of, cited_line, cited_lines, core_text, Lists}
use Rattle.core_rules.specs.TextTheorems.{CoreTextsRefute}
use Rattle.core_rules.proofs.CoresSound.{cores_refute}

-- ---- an item stands among all items
pub record Stands (i : Item) (items : List Item) : Type 0 where
  pub before : List Item
  pub after : List Item
  pub is : items ≡ before ++ (i ∷ after)

stands_left : (i : Item) (xs ys : List Item) → Stands i xs → Stands i (xs ++ ys)
stands_left i xs ys s = record {
  before = s.before;
  after = s.after ++ ys;
  is = ap (λ z. z ++ ys) s.is ∙ append_assoc s.before (i ∷ s.after) ys;
}

stands_right : (i : Item) (xs ys : List Item) → Stands i ys → Stands i (xs ++ ys)
stands_right i xs ys s = record {
  before = xs ++ s.before;
  after = s.after;
  is = ap (λ z. xs ++ z) s.is ∙ sym (append_assoc xs s.before (i ∷ s.after));
}

-- the numbers from a on
stands_at : (f : ℕ → List Item) (a n k : ℕ) (i : Item) → k < n → Stands i (f (a + k)) → Stands i (flat_map f (range_with_len a n))
stands_at f a zero k i l s = absurd (omega arith)
stands_at f a (suc n) zero i l s = stands_left i (f a) (flat_map f (range_with_len (a + 1) n)) (subst (λ (m : ℕ). Stands i (f m)) (let e : a + 0 ≡ a = omega arith in e) s)
stands_at f a (suc n) (suc k) i l s =
    stands_right i (f a) (flat_map f (range_with_len (a + 1) n)) (stands_at f (a + 1) n k i (omega arith) (subst (λ (m : ℕ). Stands i (f m)) (let e : a + suc k ≡ a + 1 + k = omega arith in e) s))

stands_each : (f : ℕ → List Item) (n k : ℕ) (i : Item) → k < n → Stands i (f k) → Stands i (each_place n f)
stands_each f n k i l s = stands_at f 0 n k i l (subst (λ (m : ℕ). Stands i (f m)) (let e : k ≡ 0 + k = omega arith in e) s)

first_stands : (i : Item) (rest : List Item) → Stands i (i ∷ rest)
first_stands i rest = record { before = []; after = rest; is = refl }

second_stands : (j i : Item) (rest : List Item) → Stands i (j ∷ i ∷ rest)
second_stands j i rest = record { before = j ∷ []; after = rest; is = refl }

-- the node or the arc of the item is one of the problem
abbrev IsOf : Network → Item → Type 0
IsOf p (Supply n low) = n < length p.nodes
IsOf p (Law a) = a < length p.arcs
IsOf p (End (Flow a) low) = a < length p.arcs
IsOf p (End (Square n) low) = n < length p.nodes

module _ (p : Network) where
  abbrev S : List Item
  S = each_place (length p.nodes) supplies_at

  abbrev L : List Item
  L = each_place (length p.arcs) laws_at

  abbrev F : List Item
  F = each_place (length p.arcs) flows_at

  abbrev Q : List Item
  Q = each_place (length p.nodes) squares_at

  among_all : (i : Item) → IsOf p i → Stands i (items_of p)
  among_all (Supply n true) h = stands_left _ S (L ++ (F ++ Q)) (stands_each supplies_at (length p.nodes) n _ h (first_stands _ _))
  among_all (Supply n false) h = stands_left _ S (L ++ (F ++ Q)) (stands_each supplies_at (length p.nodes) n _ h (second_stands _ _ _))
  among_all (Law a) h = stands_right _ S (L ++ (F ++ Q)) (stands_left _ L (F ++ Q) (stands_each laws_at (length p.arcs) a _ h (first_stands _ _)))
  among_all (End (Flow a) true) h = stands_right _ S (L ++ (F ++ Q)) (stands_right _ L (F ++ Q) (stands_left _ F Q (stands_each flows_at (length p.arcs) a _ h (first_stands _ _))))
  among_all (End (Flow a) false) h = stands_right _ S (L ++ (F ++ Q)) (stands_right _ L (F ++ Q) (stands_left _ F Q (stands_each flows_at (length p.arcs) a _ h (second_stands _ _ _))))
  among_all (End (Square n) true) h = stands_right _ S (L ++ (F ++ Q)) (stands_right _ L (F ++ Q) (stands_right _ F Q (stands_each squares_at (length p.nodes) n _ h (first_stands _ _))))
  among_all (End (Square n) false) h = stands_right _ S (L ++ (F ++ Q)) (stands_right _ L (F ++ Q) (stands_right _ F Q (stands_each squares_at (length p.nodes) n _ h (second_stands _ _ _))))

  -- ---- lines end with line feeds
  -- the text ends with a line feed
  record EndsLine (text : List ℕ) : Type 0 where
    front : List ℕ
    is : text ≡ front ++ (10 ∷ [])

  one_line : (text : List ℕ) (t : Bool) (i : Item) → EndsLine text → EndsLine (text ++ cond t (item_line p i) [])
  one_line text true i h = record { front = text ++ item_words p i; is = sym (append_assoc text (item_words p i) (10 ∷ [])) }
  one_line text false i h = record { front = h.front; is = append-nil text ∙ h.is }

  module _ (cited : Item → Bool) where
    lines_end : (text : List ℕ) (items : List Item) → EndsLine text → EndsLine (text ++ cited_lines p cited items)
    lines_end text [] h = record { front = h.front; is = append-nil text ∙ h.is }
    lines_end text (i ∷ items) h =
        let more = lines_end (text ++ cited_line p cited i) items (one_line text (cited i) i h) in
        record { front = more.front; is = sym (append_assoc text (cited_line p cited i) (cited_lines p cited items)) ∙ more.is }

    cited_whole : (i : Item) → IsTrue (cited i) → cited_line p cited i ≡ item_line p i
    cited_whole i h = ap (λ t. cond t (item_line p i) []) h

    split_lines : (i : Item) (before after : List Item) → IsTrue (cited i) → cited_lines p cited (before ++ (i ∷ after)) ≡ cited_lines p cited before ++ (item_line p i ++ cited_lines p cited after)
    split_lines i before after h =
        flat_map-append (cited_line p cited) before (i ∷ after) ∙ ap (λ z. cited_lines p cited before ++ (z ++ cited_lines p cited after)) (cited_whole i h)

    -- a cited item's line is one of the text's after its first
    listed : (i : Item) → IsTrue (cited i) → IsOf p i → Lists p (core_text p cited) i
    listed i h is =
        let s = among_all i is in
        let first : List ℕ = codes "gascore 1" ++ 10 ∷ [] in
        let last : List ℕ = codes "end" ++ 10 ∷ [] in
        let a = cited_lines p cited s.before in
        let b = cited_lines p cited s.after in
        let ends = lines_end first s.before (record { front = codes "gascore 1"; is = refl }) in
        record {
          front = ends.front;
          rest = b ++ last;
          is =
              ap (λ z. first ++ (z ++ last)) (ap (cited_lines p cited) s.is ∙ split_lines i s.before s.after h)
              ∙ ap (λ z. first ++ z) (append_assoc a (item_line p i ++ b) last ∙ ap (λ z. a ++ z) (append_assoc (item_line p i) b last))
              ∙ sym (append_assoc first a (item_line p i ++ (b ++ last)))
              ∙ ap (λ z. z ++ (item_line p i ++ (b ++ last))) ends.is
              ∙ append_assoc ends.front (10 ∷ []) (item_line p i ++ (b ++ last));
        }

-- ---- items that are none of the problem
both_past : {A B : Type 0} (f : A → B) (xs ys : List A) (i : ℕ) → length xs ≡ length ys → length xs ≤ i → option_map f (slice_get xs i) ≡ option_map f (slice_get ys i)
both_past f xs ys i e h =
    ap (option_map f) (slice_get_past xs i h) ∙ sym (ap (option_map f) (slice_get_past ys i (omega (arith, e, h))))

module _ (p p2 : Network) (shape : SameShape p p2) where
  node_count : length p.nodes ≡ length p2.nodes
  node_count = sym (length-map p.nodes blank_node) ∙ ap length shape.nodes ∙ length-map p2.nodes blank_node

  arc_count : length p.arcs ≡ length p2.arcs
  arc_count = sym (length-map p.arcs blank_arc) ∙ ap length shape.arcs ∙ length-map p2.arcs blank_arc

  one_of_both : (i : Item) → IsOf p i ⊎ SameAt p p2 i
  one_of_both (Supply n low) =
      elim (cases_lt n (length p.nodes)) [
        | inl within ↦ inl within
        | inr past ↦ inr (both_past (supply_of low) p.nodes p2.nodes n node_count past)
      ]
  one_of_both (Law a) =
      elim (cases_lt a (length p.arcs)) [
        | inl within ↦ inl within
        | inr past ↦ inr (both_past kind_of p.arcs p2.arcs a arc_count past)
      ]
  one_of_both (End (Flow a) low) =
      elim (cases_lt a (length p.arcs)) [
        | inl within ↦ inl within
        | inr past ↦ inr (both_past (flow_bound low) p.arcs p2.arcs a arc_count past)
      ]
  one_of_both (End (Square n) low) =
      elim (cases_lt n (length p.nodes)) [
        | inl within ↦ inl within
        | inr past ↦ inr (both_past (pressure_bound low) p.nodes p2.nodes n node_count past)
      ]

pub core_texts_refute : CoreTextsRefute
core_texts_refute p p2 text core w is agrees =
    cores_refute p p2 is.lines is.cited w is.cites
    (record {
      shape = agrees.shape;
      numbers = λ i among.
          elim (one_of_both p p2 agrees.shape i) [
            | inl within ↦ agrees.numbers i (subst (λ z. Lists p z i) (sym is.is_text) (listed p (λ j. is_among j is.cited) i among within))
            | inr same ↦ same
          ];
    })
