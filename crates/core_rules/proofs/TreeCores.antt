-- Each problem that agrees on what the lines of a tree cite has no point.
use Rattle.std.proofs.Common.{◌≡◌, ◌⊎◌, ℕ, inl, inr, refl, sym, ap, ◌∙◌, subst, arith, ℤ, ◌*ℤ◌, Bool, true, false, cond, not, ◌&&◌, IsTrue, List, [], ◌∷◌, map, slice_get, Option, Some, None, option_map}
use Rattle.std.specs.Prelude.{option_and_then}
use Rattle.std.proofs.lemmas.Bool.{and_parts}
use Rattle.integer_laws.proofs.Ring.{linear, le_or_lt}
use Rattle.gas_model.specs.declared.rows.ArcRow.{ArcRow}
use Rattle.base_types.specs.declared.states.ArcState.{ArcState}
use Rattle.gas_model.specs.declared.rows.PartState.{PartState}
use Rattle.base_types.specs.declared.variables.Var.{Var}
use Rattle.gas_model.specs.Rows.{Network}
use Rattle.gas_model.specs.Choices.{allowed_states, fixed_state}
use Rattle.gas_model.specs.Rulings.{is_free}
use Rattle.gas_model.specs.Points.{Point}
use Rattle.gas_model.specs.Boxes.{BoxFits, ends_of, is_var, is_in_box, tightened, numerator}
use Rattle.gas_model.proofs.BoxFacts.{in_box, tightened_fits}
use Rattle.tree_cert.specs.declared.line.Head.{Head}
use Rattle.tree_cert.specs.declared.line.Head.TheVariants.{Take, State, Half}
use Rattle.tree_cert.specs.Tree.{ByGroup, ByArc, ByHalves, Tree, Children, Then, Shut, Left, Split, NoChild, Child, IsClosed, AreClosed}
use Rattle.tree_cert.specs.TreeRules.{Holds, Passes, PassAll}
use Rattle.tree_rules.specs.Rules.{PartBox, rule_holds, is_allowed, step_holds, stepped, after_step}
use Rattle.tree_rules.specs.Branches.{Wait, Heads, Halves, with_pick, with_state, headed, group_heads, state_heads, arc_heads, after_branch, same_var, same_head, lies_inside, lower_half, upper_half, after_head, rules_of}
use Rattle.tree_rules.proofs.StepSound.{Stands, rule_keeps, closing_none, map_is}
use Rattle.tree_rules.proofs.SameHeads.{heads_are_told_apart}
use Rattle.tree_rules.proofs.TreeSound.{if_some, Fits, AnyFits, rules_lose_nothing}
use Rattle.core_rules.specs.Reads.{Item, Supply, Law, End, step_reads, closing_reads}
use Rattle.core_rules.specs.Cores.{same_item, is_among, head_sets, step_cites, tree_cites, children_cite, SameShape, ReadsSame, Alike, Carried}
use Rattle.core_rules.specs.Theorems.{CoresRefuteBoxes}
use Rattle.core_rules.proofs.Shapes.{Twin, twin_of, fixed_same, allowed_same}
use Rattle.core_rules.proofs.StepReads.{rule_same}
use Rattle.core_rules.proofs.ClosingReads.{var_kept, holds_too}
use Rattle.core_rules.proofs.Walk.{either_of, among_left, among_right, each_read, still_same}
use Rattle.tree_rules.proofs.SameVars.{var_is}

holds_some : {A : Type 0} (o : Option A) (P : A → Type 0) → Holds o P → (x : A) × (o ≡ Some x) × P x
holds_some None P h = absurd h
holds_some (Some x) P h = (x, refl, h)

-- the box in which an end becomes C
abbrev moved : PartBox → Var → Bool → ℤ → PartBox
moved b v low C = record { scale = b.scale; part = b.part; bounds = tightened b.bounds v low C }

is_false : (t : Bool) → IsTrue (not t) → t ≡ false
is_false true h = absurd cc
is_false false h = refl

module _ (p p2 : Network) (core : List Item) (picks : List ℕ) (states : List ArcState) (x : Point) where
  -- the boxes of both problems at a place of the tree, and the point
  record Pair (set : List Item) (b b2 : PartBox) : Type 0 where
    fits : BoxFits p b.bounds
    carried : Carried p p2 core set b b2
    stands : Stands p2 b2 picks states x

  abbrev Sub : List Item → Type 0
  Sub cites = (i : Item) → IsTrue (is_among i cites) → IsTrue (is_among i core)

  -- ---- a set end
  moved_same : (b b2 : PartBox) (v : Var) (low : Bool) (C : ℤ) (i : Item) → IsTrue (is_in_box b.bounds v) → IsTrue (is_in_box b2.bounds v) → IsTrue (same_item i (End v low)) ⊎ ReadsSame p p2 b b2 i → ReadsSame p p2 (moved b v low C) (moved b2 v low C) i
  moved_same b b2 v low C (Supply n end) k l (inl h) = absurd cc
  moved_same b b2 v low C (Supply n end) k l (inr h) = h
  moved_same b b2 v low C (Law a) k l (inl h) = absurd cc
  moved_same b b2 v low C (Law a) k l (inr h) = h
  moved_same b b2 v low C (End w end) k l h = still_same b.bounds b2.bounds v w low end C k l h

  moved_carried : (set : List Item) (b b2 : PartBox) (v : Var) (low : Bool) (C : ℤ) → IsTrue (is_in_box b.bounds v) → IsTrue (is_in_box b2.bounds v) → Carried p p2 core set b b2 → Carried p p2 core (End v low ∷ set) (moved b v low C) (moved b2 v low C)
  moved_carried set b b2 v low C k l h = record {
    alike = record { shape = h.alike.shape; scale = h.alike.scale; part = h.alike.part };
    set_same = λ i m. moved_same b b2 v low C i k l (elim (either_of (same_item i (End v low)) (is_among i set) m) [ inl here ↦ inl here | inr there ↦ inr (h.set_same i there) ]);
    core_same = λ i m. moved_same b b2 v low C i k l (inr (h.core_same i m));
  }

  moved_pair : (set : List Item) (b b2 : PartBox) (v : Var) (low : Bool) (C : ℤ) → IsTrue (is_var p2 v) → Pair set b b2 → Stands p2 (moved b2 v low C) picks states x → Pair (End v low ∷ set) (moved b v low C) (moved b2 v low C)
  moved_pair set b b2 v low C t pair stands =
      let here : IsTrue (is_var p v) = var_kept p p2 b b2 pair.carried.alike v ∙ t in
      record {
        fits = tightened_fits p b.bounds v low C pair.fits;
        carried = moved_carried set b b2 v low C (in_box p b.bounds v pair.fits here) (in_box p2 b2.bounds v pair.stands.box.fits t) pair.carried;
        stands = stands;
      }

  -- ---- a child's box
  child_stands : (b2 : PartBox) (h : Head) → Stands p2 b2 picks states x → Fits p2 picks states x b2.scale h → Stands p2 (headed b2 h) picks states x
  child_stands b2 h s f =
      let made : PartBox × Wait = (headed b2 h, Heads b2 []) in
      elim ((rules_lose_nothing p2 picks states x).heads (Heads b2 (h ∷ [])) h made (ap (λ t. cond t (Some made) None) ((heads_are_told_apart h h).1 refl)) (s, inl f)) [
        | inl here ↦ here
        | inr none ↦ absurd none.1
      ]

  -- the part state alone changes
  part_pair : (set : List Item) (b b2 : PartBox) (part part2 : PartState) → part ≡ part2 → Pair set b b2 → Stands p2 (record { scale = b2.scale; part = part2; bounds = b2.bounds }) picks states x
      → Pair set (record { scale = b.scale; part = part; bounds = b.bounds }) (record { scale = b2.scale; part = part2; bounds = b2.bounds })
  part_pair set b b2 part part2 e pair s =
      let c = pair.carried in
      record {
        fits = pair.fits;
        carried = record {
          alike = record { shape = c.alike.shape; scale = c.alike.scale; part = e };
          set_same = λ i m. still i (c.set_same i m);
          core_same = λ i m. still i (c.core_same i m);
        };
        stands = s;
      }
    where
      still : (i : Item) → ReadsSame p p2 b b2 i → ReadsSame p p2 (record { scale = b.scale; part = part; bounds = b.bounds }) (record { scale = b2.scale; part = part2; bounds = b2.bounds }) i
      still (Supply n low) r = r
      still (Law a) r = r
      still (End v low) r = r

  head_pair : (set : List Item) (b b2 : PartBox) (h : Head) → Pair set b b2 → Fits p2 picks states x b2.scale h → Pair (head_sets set h) (headed b h) (headed b2 h)
  head_pair set b b2 (Take k j) pair f = part_pair set b b2 (with_pick b.part k j) (with_pick b2.part k j) (ap (λ z. with_pick z k j) pair.carried.alike.part) pair (child_stands b2 (Take k j) pair.stands f)
  head_pair set b b2 (State a t) pair f = part_pair set b b2 (with_state b.part a t) (with_state b2.part a t) (ap (λ z. with_state z a t) pair.carried.alike.part) pair (child_stands b2 (State a t) pair.stands f)
  head_pair set b b2 (Half v low C) pair f = moved_pair set b b2 v low C f.is_var pair (child_stands b2 (Half v low C) pair.stands f)

  -- ---- branches
  groups_same : (b b2 : PartBox) (k : ℕ) → Alike p p2 b b2 → group_heads p b.part k ≡ group_heads p2 b2.part k
  groups_same b b2 k h = rw (h.part, h.shape.groups) refl

  free_same : (part : PartState) (a : ℕ) (row row2 : ArcRow) → SameShape p p2 → fixed_state p part a row ≡ fixed_state p2 part a row2 → is_free p part a row ≡ is_free p2 part a row2
  free_same part a row row2 s e = rw (e, s.groups) refl

  states_same : (part : PartState) (a : ℕ) (row : ArcRow) (t : Twin p2 a row) → SameShape p p2 → state_heads p part a row ≡ state_heads p2 part a t.row2
  states_same part a row t s =
      ap (λ z. cond z (Some (map (State a) (allowed_states p part a row))) None) (free_same part a row t.row2 s (fixed_same p p2 part a row t.row2 s t.kind))
      ∙ ap (λ z. cond (is_free p2 part a t.row2) (Some (map (State a) z)) None) (allowed_same p p2 part a row t.row2 s t.kind)

  arcs_same : (b b2 : PartBox) (a : ℕ) (hs : List Head) → Alike p p2 b b2 → (o : Option ArcRow) → slice_get p.arcs a ≡ o → option_and_then (state_heads p b.part a) o ≡ Some hs → arc_heads p2 b2.part a ≡ Some hs
  arcs_same b b2 a hs h None at e = absurd cc
  arcs_same b b2 a hs h (Some row) at e =
      let t = twin_of p p2 a row h.shape at in
      ap (λ z. arc_heads p2 z a) (sym h.part) ∙ ap (option_and_then (state_heads p2 b.part a)) t.is ∙ sym (states_same b.part a row t h.shape) ∙ e

  -- the heads that are expected, of which one fits the point
  record Expected (b b2 : PartBox) (w : Wait) : Type 0 where
    heads : List Head
    is : Heads b heads ≡ w
    any : AnyFits p2 picks states x b2.scale heads

  groups_expect : (set : List Item) (b b2 : PartBox) (k : ℕ) (w : Wait) → after_branch p b (ByGroup k) ≡ Some w → Pair set b b2 → Expected b b2 w
  groups_expect set b b2 k w e pair =
      let found = map_is (Heads b) (group_heads p b.part k) w e in
      let hs = found.0 in
      let same : group_heads p2 b2.part k ≡ Some hs = sym (groups_same b b2 k pair.carried.alike) ∙ found.1 in
      let waits = (rules_lose_nothing p2 picks states x).branches b2 (ByGroup k) (Heads b2 hs) (ap (option_map (Heads b2)) same) pair.stands in
      record { heads = hs; is = found.2; any = waits.1 }

  arcs_expect : (set : List Item) (b b2 : PartBox) (a : ℕ) (w : Wait) → after_branch p b (ByArc a) ≡ Some w → Pair set b b2 → Expected b b2 w
  arcs_expect set b b2 a w e pair =
      let found = map_is (Heads b) (arc_heads p b.part a) w e in
      let hs = found.0 in
      let same : arc_heads p2 b2.part a ≡ Some hs = arcs_same b b2 a hs pair.carried.alike (slice_get p.arcs a) refl found.1 in
      let waits = (rules_lose_nothing p2 picks states x).branches b2 (ByArc a) (Heads b2 hs) (ap (option_map (Heads b2)) same) pair.stands in
      record { heads = hs; is = found.2; any = waits.1 }

  -- ---- the tree
  mutual
    tree_none : (t : Tree) (set : List Item) (b b2 : PartBox) → Passes (rules_of p) t b → IsClosed t → Sub (tree_cites p set b t) → Pair set b b2 → ⊥
    tree_none (Then s t) set b b2 passes closed sub pair =
        let h = holds_some (after_step p b s) (λ next. Passes (rules_of p) t next) passes in
        let e = if_some (step_holds p b s) (stepped b s) h.0 h.1 in
        let below : Passes (rules_of p) t (stepped b s) = subst (λ (next : PartBox). Passes (rules_of p) t next) (sym e.1) h.2 in
        let tests = and_parts (is_var p s.var && is_allowed b.bounds s.rule s.var s.low s.value) (rule_holds p b s.rule s.place s.var s.low s.value) e.0 in
        let reads = each_read (λ i. ReadsSame p p2 b b2 i) set (step_reads p s.rule s.place s.var s.low) pair.carried.set_same
        (λ i k. pair.carried.core_same i (sub i (among_left i (step_cites p set s) (tree_cites p (End s.var s.low ∷ set) (stepped b s) t) k))) in
        let held = rule_same p p2 b b2 pair.carried.alike s.rule s.place s.var s.low s.value reads tests.1 in
        let keeps = rule_keeps p2 b2 s picks states x held pair.stands in
        tree_none t (End s.var s.low ∷ set) (stepped b s) (stepped b2 s) below closed (λ i k. sub i (among_right i (step_cites p set s) (tree_cites p (End s.var s.low ∷ set) (stepped b s) t) k))
        (moved_pair set b b2 s.var s.low s.value keeps.0 pair keeps.1)
    tree_none (Shut c) set b b2 passes closed sub pair =
        let reads = each_read (λ i. ReadsSame p p2 b b2 i) set (closing_reads p b c) pair.carried.set_same (λ i k. pair.carried.core_same i (sub i k)) in
        closing_none p2 b2 c picks states x (holds_too p p2 b b2 pair.carried.alike c reads passes) pair.stands
    tree_none Left set b b2 passes closed sub pair = closed
    tree_none (Split (ByGroup k) ks) set b b2 passes closed sub pair =
        let h = holds_some (after_branch p b (ByGroup k)) (λ w. PassAll (rules_of p) ks w) passes in
        let e = groups_expect set b b2 k h.0 h.1 pair in
        kids_none ks set b b2 e.heads (subst (λ (w : Wait). PassAll (rules_of p) ks w) (sym e.is) h.2) closed sub pair e.any
    tree_none (Split (ByArc a) ks) set b b2 passes closed sub pair =
        let h = holds_some (after_branch p b (ByArc a)) (λ w. PassAll (rules_of p) ks w) passes in
        let e = arcs_expect set b b2 a h.0 h.1 pair in
        kids_none ks set b b2 e.heads (subst (λ (w : Wait). PassAll (rules_of p) ks w) (sym e.is) h.2) closed sub pair e.any
    tree_none (Split (ByHalves v) ks) set b b2 passes closed sub pair =
        let h = holds_some (after_branch p b (ByHalves v)) (λ w. PassAll (rules_of p) ks w) passes in
        let t = if_some (is_var p v) (Halves b v) h.0 h.1 in
        halves_none ks set b b2 v (subst (λ (w : Wait). PassAll (rules_of p) ks w) (sym t.1) h.2) closed sub pair t.0

    kids_none : (ks : Children) (set : List Item) (b b2 : PartBox) (hs : List Head) → PassAll (rules_of p) ks (Heads b hs) → AreClosed ks → Sub (children_cite p set b ks) → Pair set b b2 → AnyFits p2 picks states x b2.scale hs → ⊥
    kids_none NoChild set b b2 [] passes closed sub pair any = any
    kids_none NoChild set b b2 (e ∷ es) passes closed sub pair any = cc
    kids_none (Child h t ks) set b b2 [] passes closed sub pair any = any
    kids_none (Child h t ks) set b b2 (e ∷ es) passes closed sub pair any =
        let q = holds_some (after_head (Heads b (e ∷ es)) h) (λ next. Passes (rules_of p) t next.0 × PassAll (rules_of p) ks next.1) passes.1 in
        let made : PartBox × Wait = (headed b e, Heads b es) in
        let i = if_some (same_head h e) made q.0 q.1 in
        let here : Passes (rules_of p) t (headed b e) × PassAll (rules_of p) ks (Heads b es) = subst (λ (next : PartBox × Wait). Passes (rules_of p) t next.0 × PassAll (rules_of p) ks next.1) (sym i.1) q.2 in
        let same : h ≡ e = (heads_are_told_apart h e).0 i.0 in
        elim any [
          | inl fits ↦ tree_none t (head_sets set h) (headed b h) (headed b2 h) (subst (λ (k : Head). Passes (rules_of p) t (headed b k)) (sym same) here.0) closed.0
              (λ i k. sub i (among_left i (tree_cites p (head_sets set h) (headed b h) t) (children_cite p set b ks) k))
              (head_pair set b b2 h pair (subst (λ (k : Head). Fits p2 picks states x b2.scale k) (sym same) fits))
          | inr later ↦ kids_none ks set b b2 es here.1 closed.1 (λ i k. sub i (among_right i (tree_cites p (head_sets set h) (headed b h) t) (children_cite p set b ks) k)) pair later
        ]

    halves_none : (ks : Children) (set : List Item) (b b2 : PartBox) (v : Var) → PassAll (rules_of p) ks (Halves b v) → AreClosed ks → Sub (children_cite p set b ks) → Pair set b b2 → IsTrue (is_var p v) → ⊥
    halves_none NoChild set b b2 v passes closed sub pair is = cc
    halves_none (Child (Take k j) t ks) set b b2 v passes closed sub pair is = passes.1
    halves_none (Child (State a s) t ks) set b b2 v passes closed sub pair is = passes.1
    halves_none (Child (Half w low C) t ks) set b b2 v passes closed sub pair is =
        let q = holds_some (after_head (Halves b v) (Half w low C)) (λ next. Passes (rules_of p) t next.0 × PassAll (rules_of p) ks next.1) passes.1 in
        let made : PartBox × Wait = (headed b (lower_half v C), Heads b (upper_half v C ∷ [])) in
        let i = if_some (same_var w v && not low && lies_inside (ends_of b.bounds v) C) made q.0 q.1 in
        let here : Passes (rules_of p) t (headed b (lower_half v C)) × PassAll (rules_of p) ks (Heads b (upper_half v C ∷ [])) = subst (λ (next : PartBox × Wait). Passes (rules_of p) t next.0 × PassAll (rules_of p) ks next.1) (sym i.1) q.2 in
        let tests = and_parts (same_var w v) (not low) (and_parts (same_var w v && not low) (lies_inside (ends_of b.bounds v) C) i.0).0 in
        let same : lower_half v C ≡ Half w low C = ap (λ z. Half z false C) (sym (var_is w v tests.0)) ∙ ap (λ z. Half w z C) (sym (is_false low tests.1)) in
        let h : Head = Half w low C in
        let there : IsTrue (is_var p2 v) = sym (var_kept p p2 b b2 pair.carried.alike v) ∙ is in
        elim (le_or_lt (b2.scale *ℤ numerator x v) (x.d *ℤ C)) [
          | inl below ↦ tree_none t (head_sets set (Half w low C)) (headed b (Half w low C)) (headed b2 (Half w low C)) (subst (λ (k : Head). Passes (rules_of p) t (headed b k)) same here.0) closed.0
              (λ i k. sub i (among_left i (tree_cites p (head_sets set (Half w low C)) (headed b (Half w low C)) t) (children_cite p set b ks) k))
              (head_pair set b b2 (Half w low C) pair (subst (λ (k : Head). Fits p2 picks states x b2.scale k) same (record { is_var = there; keeps = below })))
          | inr above ↦ kids_none ks set b b2 (upper_half v C ∷ []) here.1 closed.1 (λ i k. sub i (among_right i (tree_cites p (head_sets set (Half w low C)) (headed b (Half w low C)) t) (children_cite p set b ks) k)) pair
              (inl (record { is_var = there; keeps = omega (arith, linear) }))
        ]

pub cores_refute_boxes : CoresRefuteBoxes
cores_refute_boxes p p2 b b2 set t w o o2 passes closed carried picks states x h =
    tree_none p p2 (tree_cites p set b t) picks states x t set b b2 passes closed (λ i k. k) (record { fits = o.fits; carried = carried; stands = record { within = w; box = o2; is_in = h } })
