-- The children of a branch cover its box, so a tree that passes with no box left open refutes its box, and its text the problem.
use Rattle.std.proofs.Common.{◌≡◌, ◌⊎◌, ℕ, zero, suc, ◌+◌, ◌<◌, inl, inr, refl, ap, ◌∙◌, subst, arith, ℤ, pos, ◌*ℤ◌, ◌≤ℤ◌, ◌<ℤ◌, Bool, true, false, cond, ◌&&◌, not, IsTrue, List, [], ◌∷◌, length, map, slice_get, slice_index_or, slice_set, replicate, Option, Some, None, option_map, is_some, int_le}
use Rattle.std.specs.Prelude.{option_and_then}
use Rattle.std.specs.List.{range_with_len}
use Rattle.std.proofs.lemmas.Bool.Decides.{nat_tests}
use Rattle.std.proofs.lemmas.List.{length-map}
use Rattle.std.proofs.lemmas.Option.{slice_get_within, slice_get-map, get_or_from_slice_get}
use Rattle.std.proofs.lemmas.Bool.{and_parts}
use Rattle.integer_laws.proofs.Ring.{linear, mul_left_comm, mul_le_left, le_or_lt}
use Rattle.gas_model.specs.declared.rows.ArcRow.{ArcRow}
use Rattle.base_types.specs.declared.states.ArcState.{ArcState}
use Rattle.gas_model.specs.declared.rows.Ends.{Ends}
use Rattle.gas_model.specs.declared.rows.Group.{Group}
use Rattle.gas_model.specs.declared.rows.PartState.{PartState}
use Rattle.base_types.specs.declared.variables.Var.{Var}
use Rattle.base_types.specs.declared.variables.Var.TheVariants.{Flow, Square}
use Rattle.gas_model.specs.Rows.{Network}
use Rattle.base_types.specs.Numbers.{between}
use Rattle.gas_model.specs.Choices.{IsListed, allowed_states, fresh_part}
use Rattle.gas_model.specs.Curves.{square}
use Rattle.gas_model.specs.Rulings.{is_free, pick_in}
use Rattle.gas_model.specs.Points.{Point, Meets, IsInfeasible}
use Rattle.gas_model.specs.Boxes.{BoxFits, no_ends, ends_of, is_var, with_end, opening, flow_ends, square_ends, numerator, IsBetween, Contains}
use Rattle.gas_model.specs.Within.{IsWithin}
use Rattle.tree_cert.specs.declared.line.Step.{Step}
use Rattle.tree_cert.specs.declared.line.Head.{Head}
use Rattle.tree_cert.specs.declared.line.Head.TheVariants.{Take, State, Half}
use Rattle.tree_cert.specs.declared.line.Line.{Line}
use Rattle.tree_cert.specs.declared.line.Line.TheVariants as lines
use Rattle.tree_cert.specs.Tree.{Branch, ByGroup, ByArc, ByHalves, Tree, IsClosed}
use Rattle.tree_cert.specs.TreeRules.{Holds, Passes}
use Rattle.tree_rules.specs.Rules.{PartBox, step_holds, stepped, after_step}
use Rattle.tree_rules.specs.Branches.{Wait, Heads, Halves, with_pick, with_state, headed, decision_heads, group_heads, state_heads, arc_heads, after_branch, same_var, same_head, lies_inside, lower_half, upper_half, after_head, is_over, root_box, root_of, rules_of}
use Rattle.tree_rules.specs.Theorems.{Agrees, TreesRefuteBoxes, TextsRefute}
use Rattle.tree_rules.proofs.CutSound.{get_some}
use Rattle.tree_rules.proofs.States.{IsOneOf, state_of, one_allowed}
use Rattle.tree_rules.proofs.StepSound.{Stands, Kept, step_keeps, closing_none, end_moved, map_is}
use Rattle.gas_model.proofs.BoxFacts.{opening_fits, still_fits}
use Rattle.tree_rules.proofs.Induction.{LoseNothing, tree_leaves_none}

-- ---- options behind tests
pub if_some : {A : Type 0} (t : Bool) (x y : A) → cond t (Some x) None ≡ Some y → IsTrue t × (x ≡ y)
if_some true x y e = (refl, cc)
if_some false x y e = absurd cc

-- ---- a pick or a state more
get_after_set : {A : Type 0} (xs : List A) (i k : ℕ) (x y : A) → slice_get (slice_set xs i x) k ≡ Some y → ((k ≡ i) × (x ≡ y)) ⊎ (slice_get xs k ≡ Some y)
get_after_set [] i k x y e = inr e
get_after_set (z ∷ xs) zero zero x y e = inl (refl, cc)
get_after_set (z ∷ xs) zero (suc k) x y e = inr e
get_after_set (z ∷ xs) (suc i) zero x y e = inr e
get_after_set (z ∷ xs) (suc i) (suc k) x y e =
    elim (get_after_set xs i k x y e) [ inl here ↦ inl (ap suc here.0, here.1) | inr there ↦ inr there ]

picked_too : (part : PartState) (picks : List ℕ) (states : List ArcState) (k j : ℕ) → Agrees part picks states → slice_get picks k ≡ Some j → Agrees (with_pick part k j) picks states
picked_too part picks states k j h is = record {
  picked = λ g i e. elim (get_after_set part.picks k g (Some j) (Some i) e) [
    | inl here ↦ ap (slice_get picks) here.0 ∙ is ∙ here.1
    | inr there ↦ h.picked g i there
  ];
  fixed = h.fixed;
}

fixed_too : (part : PartState) (picks : List ℕ) (states : List ArcState) (a : ℕ) (s : ArcState) → Agrees part picks states → slice_get states a ≡ Some s → Agrees (with_state part a s) picks states
fixed_too part picks states a s h is = record {
  picked = h.picked;
  fixed = λ i t e. elim (get_after_set part.states a i (Some s) (Some t) e) [
    | inl here ↦ ap (slice_get states) here.0 ∙ is ∙ here.1
    | inr there ↦ h.fixed i t there
  ];
}

-- ---- the opening box
opened : {A : Type 0} (f : A → Ends) (xs : List A) (i : ℕ) (y : A) → slice_get xs i ≡ Some y → slice_index_or (map f xs) i no_ends ≡ f y
opened f xs i y e = get_or_from_slice_get (map f xs) i (f y) no_ends (slice_get-map f xs i ∙ ap (option_map f) e)

scaled_between : (K d n lo hi : ℤ) → pos 0 <ℤ K → IsTrue (between (d *ℤ lo) n (d *ℤ hi)) → IsBetween K d n (record { lo = K *ℤ lo; hi = K *ℤ hi })
scaled_between K d n lo hi k h =
    let t = and_parts (int_le (d *ℤ lo) n) (int_le n (d *ℤ hi)) h in
    record {
      above = omega (arith, linear, mul_left_comm d K lo, mul_le_left K (d *ℤ lo) n (omega (arith, linear)) (omega (arith, linear, t.0)));
      below = omega (arith, linear, mul_left_comm d K hi, mul_le_left K n (d *ℤ hi) (omega (arith, linear)) (omega (arith, linear, t.1)));
    }

-- each point that meets the problem lies in the box of its bounds
pub opening_contains : (K : ℤ) (p : Network) (states : List ArcState) (x : Point) → pos 0 <ℤ K → Meets p states x → Contains K (opening K p) x
opening_contains K p states x k m (Flow a) t =
    let l : a < length p.arcs = grind (arith, nat_tests, length-map p.arcs (flow_ends K)) in
    let found = get_some p.arcs a l in
    rw (opened (flow_ends K) p.arcs a found.0 found.1) (scaled_between K x.d (x.flow a) found.0.q_min found.0.q_max k (m.flows a found.0 found.1))
opening_contains K p states x k m (Square n) t =
    let l : n < length p.nodes = grind (arith, nat_tests, length-map p.nodes (square_ends K)) in
    let found = get_some p.nodes n l in
    rw (opened (square_ends K) p.nodes n found.0 found.1) (scaled_between K x.d (x.square n) (square found.0.p_min) (square found.0.p_max) k (m.squares n found.0 found.1))

none_picked : (n k j : ℕ) → slice_get (replicate {A = Option ℕ} n None) k ≡ Some (Some j) → ⊥
none_picked zero k j e = cc
none_picked (suc n) zero j e = cc
none_picked (suc n) (suc k) j e = none_picked n k j e

none_fixed : (n a : ℕ) (s : ArcState) → slice_get (replicate {A = Option ArcState} n None) a ≡ Some (Some s) → ⊥
none_fixed zero a s e = cc
none_fixed (suc n) zero s e = cc
none_fixed (suc n) (suc a) s e = none_fixed n a s e

fresh_agrees : (p : Network) (picks : List ℕ) (states : List ArcState) → Agrees (fresh_part p) picks states
fresh_agrees p picks states = record {
  picked = λ k j e. absurd (none_picked (length p.groups) k j e);
  fixed = λ a s e. absurd (none_fixed (length p.arcs) a s e);
}

-- ---- one point, in its choices
module _ (p : Network) (picks : List ℕ) (states : List ArcState) (x : Point) where
  -- the choices and the point are of the child with this head
  abbrev pub Fits : ℤ → Head → Type 0
  Fits K (Take k j) = slice_get picks k ≡ Some j
  Fits K (State a s) = slice_get states a ≡ Some s
  Fits K (Half v low C) = Kept p K x v low C

  abbrev pub AnyFits : ℤ → List Head → Type 0
  AnyFits K [] = ⊥
  AnyFits K (h ∷ hs) = Fits K h ⊎ AnyFits K hs

  abbrev pub InBox : PartBox → Type 0
  InBox b = Stands p b picks states x

  abbrev pub InWait : Wait → Type 0
  InWait (Heads b hs) = InBox b × AnyFits b.scale hs
  InWait (Halves b v) = InBox b × IsTrue (is_var p v)

  child_has : (b : PartBox) (h : Head) → InBox b → Fits b.scale h → InBox (headed b h)
  child_has b (Take k j) s f = record {
    within = s.within;
    box = record { scale = s.box.scale; fits = s.box.fits };
    is_in = record { listed = s.is_in.listed; agrees = picked_too b.part picks states k j s.is_in.agrees f; inside = s.is_in.inside; meets = s.is_in.meets };
  }
  child_has b (State a t) s f = record {
    within = s.within;
    box = record { scale = s.box.scale; fits = s.box.fits };
    is_in = record { listed = s.is_in.listed; agrees = fixed_too b.part picks states a t s.is_in.agrees f; inside = s.is_in.inside; meets = s.is_in.meets };
  }
  child_has b (Half v low C) s f = record {
    within = s.within;
    box = record { scale = s.box.scale; fits = still_fits p b.bounds v (with_end low C (ends_of b.bounds v)) s.box.fits };
    is_in = record { listed = s.is_in.listed; agrees = s.is_in.agrees; inside = end_moved p b picks states x v low C s f; meets = s.is_in.meets };
  }

  -- all decisions of a group are tried
  decision_among : (K : ℤ) (k i n j m : ℕ) → j ≡ i + m → m < n → slice_get picks k ≡ Some j → AnyFits K (map (Take k) (range_with_len i n))
  decision_among K k i zero j m e l is = absurd (omega arith)
  decision_among K k i (suc n) j zero e l is = inl (is ∙ ap Some (let s : j ≡ i = omega arith in s))
  decision_among K k i (suc n) j (suc m) e l is = inr (decision_among K k (i + 1) n j m (omega arith) (omega arith) is)

  decisions_cover : (K : ℤ) (k : ℕ) (g : Group) → IsListed p picks states → slice_get p.groups k ≡ Some g → AnyFits K (decision_heads k g)
  decisions_cover K k g listed at =
      let l = slice_get_within p.groups k g at in
      let found = get_some picks k (omega (arith, listed.picked.one_each)) in
      decision_among K k 0 (length g.decisions) found.0 found.0 (omega arith) (listed.picked.within k g found.0 at found.1) found.1

  -- all allowed states of an arc are tried
  state_among : (K : ℤ) (a : ℕ) (t : ArcState) (ss : List ArcState) → IsOneOf t ss → slice_get states a ≡ Some t → AnyFits K (map (State a) ss)
  state_among K a t [] h is = h
  state_among K a t (s ∷ ss) (inl here) is = inl (is ∙ ap Some here)
  state_among K a t (s ∷ ss) (inr later) is = inr (state_among K a t ss later is)

  states_cover : (K : ℤ) (part : PartState) (a : ℕ) (row : ArcRow) → IsListed p picks states → Agrees part picks states → slice_get p.arcs a ≡ Some row → AnyFits K (map (State a) (allowed_states p part a row))
  states_cover K part a row listed agrees at =
      let found = state_of p part picks states a row listed agrees at in
      state_among K a found.0 (allowed_states p part a row) (one_allowed p part a row found.0 found.2) found.1

  -- ---- branches
  group_covers : (K : ℤ) (part : PartState) (k : ℕ) (hs : List Head) → IsListed p picks states → group_heads p part k ≡ Some hs → AnyFits K hs
  group_covers K part k hs listed e = by_test (is_some (pick_in part.picks k)) e
    where
      by_test : (t : Bool) → cond t None (option_map (decision_heads k) (slice_get p.groups k)) ≡ Some hs → AnyFits K hs
      by_test true e = absurd cc
      by_test false e =
          let found = map_is (decision_heads k) (slice_get p.groups k) hs e in
          subst (λ (l : List Head). AnyFits K l) found.2 (decisions_cover K k found.0 listed found.1)

  arc_covers : (K : ℤ) (part : PartState) (a : ℕ) (hs : List Head) → IsListed p picks states → Agrees part picks states → arc_heads p part a ≡ Some hs → AnyFits K hs
  arc_covers K part a hs listed agrees e = by_row (slice_get p.arcs a) refl e
    where
      by_row : (o : Option ArcRow) → slice_get p.arcs a ≡ o → option_and_then (state_heads p part a) o ≡ Some hs → AnyFits K hs
      by_row None at e = absurd cc
      by_row (Some row) at e =
          let t = if_some (is_free p part a row) (map (State a) (allowed_states p part a row)) hs e in
          subst (λ (l : List Head). AnyFits K l) t.1 (states_cover K part a row listed agrees at)

  branch_covers : (b : PartBox) (f : Branch) (w : Wait) → after_branch p b f ≡ Some w → InBox b → InWait w
  branch_covers b (ByGroup k) w e s =
      let found = map_is (Heads b) (group_heads p b.part k) w e in
      subst InWait found.2 (s, group_covers b.scale b.part k found.0 s.is_in.listed found.1)
  branch_covers b (ByArc a) w e s =
      let found = map_is (Heads b) (arc_heads p b.part a) w e in
      subst InWait found.2 (s, arc_covers b.scale b.part a found.0 s.is_in.listed s.is_in.agrees found.1)
  branch_covers b (ByHalves v) w e s =
      let t = if_some (is_var p v) (Halves b v) w e in
      subst InWait t.1 (s, t.0)

  -- ---- heads
  abbrev InNext : PartBox × Wait → Type 0
  InNext next = InBox next.0 ⊎ InWait next.1

  expected_head : (b : PartBox) (h e : Head) (es : List Head) (next : PartBox × Wait) → after_head (Heads b (e ∷ es)) h ≡ Some next → InWait (Heads b (e ∷ es)) → InNext next
  expected_head b h e es next is s =
      let made : PartBox × Wait = (headed b e, Heads b es) in
      let t = if_some (same_head h e) made next is in
      let here : InNext made = elim s.1 [ inl fits ↦ inl (child_has b e s.0 fits) | inr later ↦ inr (s.0, later) ] in
      subst InNext t.1 here

  half_kept : (b : PartBox) (v : Var) (C : ℤ) → IsTrue (is_var p v) → Fits b.scale (lower_half v C) ⊎ Fits b.scale (upper_half v C)
  half_kept b v C t =
      elim (le_or_lt (b.scale *ℤ numerator x v) (x.d *ℤ C)) [
        | inl below ↦ inl (record { is_var = t; keeps = below })
        | inr above ↦ inr (record { is_var = t; keeps = omega (arith, linear) })
      ]

  first_half : (b : PartBox) (v w : Var) (low : Bool) (C : ℤ) (next : PartBox × Wait) → after_head (Halves b v) (Half w low C) ≡ Some next → InWait (Halves b v) → InNext next
  first_half b v w low C next is s =
      let made : PartBox × Wait = (headed b (lower_half v C), Heads b (upper_half v C ∷ [])) in
      let t = if_some (same_var w v && not low && lies_inside (ends_of b.bounds v) C) made next is in
      let here : InNext made = elim (half_kept b v C s.1) [ inl lower ↦ inl (child_has b (lower_half v C) s.0 lower) | inr upper ↦ inr (s.0, inl upper) ] in
      subst InNext t.1 here

  head_keeps : (w : Wait) (h : Head) (next : PartBox × Wait) → after_head w h ≡ Some next → InWait w → InNext next
  head_keeps (Heads b []) h next e s = absurd cc
  head_keeps (Heads b (f ∷ fs)) h next e s = expected_head b h f fs next e s
  head_keeps (Halves b v) (Half w low C) next e s = first_half b v w low C next e s
  head_keeps (Halves b v) (Take k j) next e s = absurd cc
  head_keeps (Halves b v) (State a t) next e s = absurd cc

  over_none : (w : Wait) → is_over w ≡ true → InWait w → ⊥
  over_none (Heads b []) e s = s.1
  over_none (Heads b (h ∷ hs)) e s = cc
  over_none (Halves b v) e s = cc

  step_after : (b : PartBox) (s : Step) (next : PartBox) → after_step p b s ≡ Some next → InBox b → InBox next
  step_after b s next e h =
      let t = if_some (step_holds p b s) (stepped b s) next e in
      subst InBox t.1 (step_keeps p b s picks states x t.0 h)

  pub rules_lose_nothing : LoseNothing (rules_of p) InBox InWait
  rules_lose_nothing = record {
    steps = step_after;
    closings = λ b c e s. closing_none p b c picks states x e s;
    branches = branch_covers;
    heads = head_keeps;
    overs = over_none;
  }

-- ---- the theorems
pub trees_refute_boxes : TreesRefuteBoxes
trees_refute_boxes p b t w o passes closed picks states x h =
    tree_leaves_none (rules_of p) (InBox p picks states x) (InWait p picks states x) (rules_lose_nothing p picks states x) t b passes closed (record { within = w; box = o; is_in = h })

root_refutes : (K : ℤ) (p : Network) (t : Tree) → pos 1 ≤ℤ K → IsWithin p → Passes (rules_of p) t (root_box K p) → IsClosed t → IsInfeasible p
root_refutes K p t k w passes closed picks states x listed meets =
    trees_refute_boxes p (root_box K p) t w (record { scale = k; fits = opening_fits K p }) passes closed picks states x
    (record { listed = listed; agrees = fresh_agrees p picks states; inside = opening_contains K p states x (omega (arith, linear)) meets; meets = meets })

line_refutes : (p : Network) (first : Line) (t : Tree) → IsWithin p → Holds (root_of p first) (Passes (rules_of p) t) → IsClosed t → IsInfeasible p
line_refutes p lines.First t w h closed = root_refutes (pos 1) p t (omega (arith, linear)) w h closed
line_refutes p lines.FirstSixteenths t w h closed = root_refutes (pos 16) p t (omega (arith, linear)) w h closed
line_refutes p other t w h closed = absurd h

pub texts_refute : TextsRefute
texts_refute p ls w (t, text, closed) = line_refutes p text.first t w text.passes closed
