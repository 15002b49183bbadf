-- The children of a branch are no wider than the box that is split.
use Rattle.std.proofs.Common.{◌≡◌, ℕ, zero, suc, ap, ◌∙◌, subst, inl, inr, arith, ℤ, ◌≤ℤ◌, Bool, true, false, cond, not, ◌&&◌, IsTrue, List, [], ◌∷◌, map, Option, Some, None, option_map, is_some}
use Rattle.std.specs.Prelude.{slice_get, option_and_then, int_lt}
use Rattle.std.proofs.lemmas.Bool.{and_parts}
use Rattle.integer_laws.proofs.Ring.{linear}
use Rattle.gas_model.specs.declared.rows.ArcRow.{ArcRow}
use Rattle.gas_model.specs.declared.rows.Ends.{Ends}
use Rattle.base_types.specs.declared.variables.Var.{Var}
use Rattle.gas_model.specs.Rows.{Network}
use Rattle.gas_model.specs.Rulings.{is_free, pick_in}
use Rattle.gas_model.specs.Choices.{allowed_states}
use Rattle.gas_model.specs.Boxes.{Bounds, BoxFits, ends_of, is_var, is_in_box, width_of, with_end, tightened}
use Rattle.gas_model.proofs.BoxFacts.{tightened_fits, in_box}
use Rattle.tree_cert.specs.declared.line.Head.{Head}
use Rattle.tree_cert.specs.declared.line.Head.TheVariants.{Take, State, Half}
use Rattle.tree_cert.specs.Tree.{Branch, ByGroup, ByArc, ByHalves}
use Rattle.tree_cert.proofs.Options.{holds_some}
use Rattle.tree_rules.specs.Rules.{PartBox}
use Rattle.tree_rules.specs.Branches.{Wait, Heads, Halves, headed, decision_heads, group_heads, state_heads, arc_heads, after_branch, same_var, same_head, lies_inside, lower_half, upper_half, after_head, rules_of}
use Rattle.tree_rules.proofs.StepSound.{map_is}
use Rattle.tree_rules.proofs.TreeSound.{if_some}
use Rattle.tight_steps.proofs.OtherArcs.{same_ends}
use Rattle.tree_pool.specs.Rules.{AreExpected}
use Rattle.stable_sweep.specs.Paths.{IsNoWider}
use Rattle.stable_sweep.proofs.StepCounts.{tightened_here}
use Rattle.search_reach.proofs.WidthEnds.{either_var}

-- the second box is one of the problem, and no wider than the first
pub record IsInside (p : Network) (c d : PartBox) : Type 0 where
  pub fits : BoxFits p d.bounds
  pub narrow : IsNoWider c.bounds d.bounds

-- ---- the half of a variable
end_narrow : (low : Bool) (C : ℤ) (e : Ends) → IsTrue (lies_inside e C) → width_of (with_end low C e) ≤ℤ width_of e
end_narrow true C e h = let t = and_parts (int_lt e.lo C) (int_lt C e.hi) h in omega (arith, linear, t.0)
end_narrow false C e h = let t = and_parts (int_lt e.lo C) (int_lt C e.hi) h in omega (arith, linear, t.1)

half_narrow : (b : Bounds) (v w : Var) (low : Bool) (C : ℤ) → IsTrue (is_in_box b v) → IsTrue (lies_inside (ends_of b v) C) → width_of (ends_of (tightened b v low C) w) ≤ℤ width_of (ends_of b w)
half_narrow b v w low C var inside =
    elim (either_var w v) [
      | inl e ↦ rw (e, tightened_here b v low C var) (end_narrow low C (ends_of b v) inside)
      | inr n ↦ rw (same_ends b w v low C n) (omega (arith, linear))
    ]

half_inside : (p : Network) (c b : PartBox) (v : Var) (low : Bool) (C : ℤ) → IsInside p c b → IsTrue (is_var p v) → IsTrue (lies_inside (ends_of b.bounds v) C) → IsInside p c (headed b (Half v low C))
half_inside p c b v low C i var inside = record {
  fits = tightened_fits p b.bounds v low C i.fits;
  narrow = λ w. let h = half_narrow b.bounds v w low C (in_box p b.bounds v i.fits var) inside in let n = i.narrow w in omega (arith, linear, h, n);
}

-- ---- what a branch waits for
module _ (p : Network) (c : PartBox) where
  abbrev AreInside : PartBox → List Head → Type 0
  AreInside b [] = Unit {0}
  AreInside b (h ∷ hs) = IsInside p c (headed b h) × AreInside b hs

  abbrev WaitsInside : Wait → Type 0
  WaitsInside (Heads b hs) = AreInside b hs
  WaitsInside (Halves b v) = IsInside p c b × IsTrue (is_var p v)

  abbrev NextInside : PartBox × Wait → Type 0
  NextInside next = IsInside p c next.0 × WaitsInside next.1

  all_inside : {A : Type 0} (b : PartBox) (f : A → Head) (xs : List A) → ((x : A) → IsInside p c (headed b (f x))) → AreInside b (map f xs)
  all_inside b f [] h = tt
  all_inside b f (x ∷ xs) h = (h x, all_inside b f xs h)

  group_inside : (k : ℕ) (hs : List Head) → IsInside p c c → group_heads p c.part k ≡ Some hs → AreInside c hs
  group_inside k hs own e = by_test (is_some (pick_in c.part.picks k)) e
    where
      by_test : (t : Bool) → cond t None (option_map (decision_heads k) (slice_get p.groups k)) ≡ Some hs → AreInside c hs
      by_test true e = absurd cc
      by_test false e =
          let found = map_is (decision_heads k) (slice_get p.groups k) hs e in
          subst (AreInside c) found.2 (all_inside c (Take k) _ (λ j. record { fits = own.fits; narrow = own.narrow }))

  arc_inside : (a : ℕ) (hs : List Head) → IsInside p c c → arc_heads p c.part a ≡ Some hs → AreInside c hs
  arc_inside a hs own e = by_row (slice_get p.arcs a) e
    where
      by_row : (o : Option ArcRow) → option_and_then (state_heads p c.part a) o ≡ Some hs → AreInside c hs
      by_row None e = absurd cc
      by_row (Some row) e =
          let t = if_some (is_free p c.part a row) (map (State a) (allowed_states p c.part a row)) hs e in
          subst (AreInside c) t.1 (all_inside c (State a) (allowed_states p c.part a row) (λ s. record { fits = own.fits; narrow = own.narrow }))

  branch_inside : (f : Branch) (w : Wait) → IsInside p c c → after_branch p c f ≡ Some w → WaitsInside w
  branch_inside (ByGroup k) w own e =
      let found = map_is (Heads c) (group_heads p c.part k) w e in
      subst WaitsInside found.2 (group_inside k found.0 own found.1)
  branch_inside (ByArc a) w own e =
      let found = map_is (Heads c) (arc_heads p c.part a) w e in
      subst WaitsInside found.2 (arc_inside a found.0 own found.1)
  branch_inside (ByHalves v) w own e =
      let t = if_some (is_var p v) (Halves c v) w e in
      subst WaitsInside t.1 (own, t.0)

  -- ---- each child in turn
  first_half : (b : PartBox) (v w : Var) (low : Bool) (C : ℤ) (next : PartBox × Wait) → after_head (Halves b v) (Half w low C) ≡ Some next → WaitsInside (Halves b v) → NextInside next
  first_half b v w low C next is s =
      let made : PartBox × Wait = (headed b (lower_half v C), Heads b (upper_half v C ∷ [])) in
      let t = if_some (same_var w v && not low && lies_inside (ends_of b.bounds v) C) made next is in
      let inside = (and_parts (same_var w v && not low) (lies_inside (ends_of b.bounds v) C) t.0).1 in
      subst NextInside t.1 (half_inside p c b v false C s.0 s.1 inside, (half_inside p c b v true C s.0 s.1 inside, tt))

  head_inside : (w : Wait) (h : Head) (next : PartBox × Wait) → after_head w h ≡ Some next → WaitsInside w → NextInside next
  head_inside (Heads b []) h next e s = absurd cc
  head_inside (Heads b (f ∷ fs)) h next e s =
      let t = if_some (same_head h f) (headed b f, Heads b fs) next e in
      subst NextInside t.1 (s.0, s.1)
  head_inside (Halves b v) (Half w low C) next e s = first_half b v w low C next e s
  head_inside (Halves b v) (Take k j) next e s = absurd cc
  head_inside (Halves b v) (State a t) next e s = absurd cc

  kids_inside : (w : Wait) (kids : List (Head × PartBox)) → WaitsInside w → AreExpected (rules_of p) w kids → (k : ℕ) (kid : Head × PartBox) → slice_get kids k ≡ Some kid → IsInside p c kid.1
  kids_inside w [] s expected k kid at = absurd cc
  kids_inside w (x ∷ xs) s expected zero kid at =
      let z = holds_some (after_head w x.0) (λ next. (next.0 ≡ x.1) × AreExpected (rules_of p) next.1 xs) expected.1 in
      let next = head_inside w x.0 z.0 z.1 s in
      let same : x ≡ kid = cc in
      subst (IsInside p c) (z.2.0 ∙ ap (λ (y : Head × PartBox). y.1) same) next.0
  kids_inside w (x ∷ xs) s expected (suc k) kid at =
      let z = holds_some (after_head w x.0) (λ next. (next.0 ≡ x.1) × AreExpected (rules_of p) next.1 xs) expected.1 in
      let next = head_inside w x.0 z.0 z.1 s in
      kids_inside z.0.1 xs next.1 z.2.1 k kid at

-- the children of an allowed branch
pub children_inside : (p : Network) (c : PartBox) (f : Branch) (w : Wait) (kids : List (Head × PartBox)) → BoxFits p c.bounds → after_branch p c f ≡ Some w → AreExpected (rules_of p) w kids
    → (k : ℕ) (kid : Head × PartBox) → slice_get kids k ≡ Some kid → IsInside p c kid.1
children_inside p c f w kids fits is expected k kid at =
    let own : IsInside p c c = record { fits = fits; narrow = λ v. omega (arith, linear) } in
    kids_inside p c w kids (branch_inside p c f w own is) expected k kid at
