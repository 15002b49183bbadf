-- A change that is noted leaves the branches as they were; changed boxes are of the problem still.
use Rattle.std.proofs.Common.{◌≡◌, ◌⊎◌, inl, inr, ◌<◌, ℕ, zero, suc, refl, sym, ap, ◌∙◌, arith, length, get_or, length-set, List, [], ◌∷◌, Bool, true, false, Option, Some, None, IsTrue, ℤ, ◌<ℤ◌}
use Rattle.std.specs.Prelude.{slice_get, slice_set}
use Rattle.std.proofs.lemmas.List.{set-get_or}
use Rattle.std.proofs.lemmas.Option.{slice_get-get_or}
use Rattle.integer_laws.proofs.Ring.{linear}
use Rattle.base_types.specs.declared.states.ArcState.{ArcState}
use Rattle.gas_model.specs.declared.rows.Ends.{Ends}
use Rattle.base_types.specs.declared.variables.Var.{Var}
use Rattle.base_types.specs.declared.variables.Var.TheVariants.{Flow, Square}
use Rattle.gas_model.specs.Rows.{Network}
use Rattle.gas_model.specs.Boxes.{no_ends, ends_of, with_end, with_ends, may_become}
use Rattle.gas_model.specs.Choices.{PartFits, fresh_part}
use Rattle.std.specs.Prelude.{int_lt, replicate}
use Rattle.std.proofs.lemmas.Bool.{and_parts}
use Rattle.tree_rules.specs.Branches.{lies_inside}
use Rattle.tree_rules.specs.Rules.{PartBox}
use Rattle.tree_check.specs.declared.frames.Change.{Change}
use Rattle.tree_check.specs.declared.frames.Change.TheVariants as change
use Rattle.tree_check.specs.declared.frames.Frame.{Frame}
use Rattle.gas_model.specs.BoxLimits.{IsScale, AreLimited}
use Rattle.gas_model.proofs.BoxFacts.{still_fits}
use Rattle.box_ends.proofs.HeldEnds.{end_moved}
use Rattle.element_laws.specs.Sizes.{IsSafe}
use Rattle.element_laws.proofs.BoxEnds.{safe_flows, safe_squares}
use Rattle.tree_check.specs.Held.{IsBoxAt}
use Rattle.tree_check.specs.Undo.{with_bounds, with_part, put_pick, put_state, undone, before, wait_at, waits_at, noted, IsChangeOf, AreFramesOf, IsPickOf, IsStateOf, IsLimited}

pub noted_waits : (b after : PartBox) (c : Change) (fs : List Frame) → undone after c ≡ b → waits_at after (noted c fs) ≡ waits_at b fs
noted_waits b after c [] e = refl
noted_waits b after c (f ∷ fs) e = ap (λ (x : PartBox). wait_at (before x f.changes) f.expected ∷ waits_at (before x f.changes) fs) e

pub noted_frames : (p : Network) (K : ℤ) (c : Change) (fs : List Frame) → IsChangeOf p K c → AreFramesOf p K fs → AreFramesOf p K (noted c fs)
noted_frames p K c [] h t = tt
noted_frames p K c (f ∷ fs) h t = ((t.0.0, (h, t.0.1)), t.1)

set_set : {X : Type 0} (xs : List X) (i : ℕ) (x y : X) → slice_set (slice_set xs i x) i y ≡ slice_set xs i y
set_set [] i x y = refl
set_set (z ∷ xs) zero x y = refl
set_set {X} (z ∷ xs) (suc i) x y = ap (λ (l : List X). z ∷ l) (set_set xs i x y)

set_back : {X : Type 0} (xs : List X) (i : ℕ) (x d : X) → slice_set (slice_set xs i x) i (get_or xs i d) ≡ xs
set_back xs i x d = set_set xs i x (get_or xs i d) ∙ set-get_or xs i d

pub moved_back : (b : PartBox) (var : Var) (e : Ends) → undone (with_bounds b (with_ends b.bounds var e)) (change.Moved var (ends_of b.bounds var)) ≡ b
moved_back b (Flow a) e = ap (λ (l : List Ends). with_bounds b (record { flows = l; squares = b.bounds.squares })) (set_back b.bounds.flows a e no_ends)
moved_back b (Square n) e = ap (λ (l : List Ends). with_bounds b (record { flows = b.bounds.flows; squares = l })) (set_back b.bounds.squares n e no_ends)

pub picked_back : (b : PartBox) (k : ℕ) (pick : Option ℕ) → undone (with_part b (put_pick b.part k pick)) (change.Picked k (get_or b.part.picks k None)) ≡ b
picked_back b k pick = ap (λ (l : List (Option ℕ)). with_part b (record { picks = l; states = b.part.states })) (set_back b.part.picks k pick None)

pub named_back : (b : PartBox) (a : ℕ) (state : Option ArcState) → undone (with_part b (put_state b.part a state)) (change.Named a (get_or b.part.states a None)) ≡ b
named_back b a state = ap (λ (l : List (Option ArcState)). with_part b (record { picks = b.part.picks; states = l })) (set_back b.part.states a state None)

-- what is read of a list of which one item was put
set_cases : {X : Type 0} (xs : List X) (i j : ℕ) (y z : X) → slice_get (slice_set xs i y) j ≡ Some z → (slice_get xs j ≡ Some z) ⊎ ((j ≡ i) × (y ≡ z))
set_cases [] i j y z e = inl e
set_cases (x ∷ xs) zero zero y z e = inr (refl, cc)
set_cases (x ∷ xs) zero (suc j) y z e = inl e
set_cases (x ∷ xs) (suc i) zero y z e = inl e
set_cases (x ∷ xs) (suc i) (suc j) y z e = elim (set_cases xs i j y z e) [ inl h ↦ inl h | inr h ↦ inr (ap suc h.0, h.1) ]

-- ---- boxes of the problem
pub ends_at : (p : Network) (b : PartBox) (var : Var) (e : Ends) → IsBoxAt p b → IsBoxAt p (with_bounds b (with_ends b.bounds var e))
ends_at p b var e h = record { within = h.within; bounds = still_fits p b.bounds var e h.bounds; part = h.part }

pub pick_at : (p : Network) (b : PartBox) (k : ℕ) (pick : Option ℕ) → IsBoxAt p b → IsPickOf p k pick → IsBoxAt p (with_part b (put_pick b.part k pick))
pick_at p b k pick h t = record {
  within = h.within;
  bounds = h.bounds;
  part = record {
    picks = length-set b.part.picks k pick ∙ h.part.picks;
    states = h.part.states;
    within = λ i g j e s. elim (set_cases b.part.picks k i pick (Some j) s) [
      | inl old ↦ h.part.within i g j e old
      | inr new ↦ t.within g j (ap (slice_get p.groups) (sym new.0) ∙ e) new.1
    ];
    kinds = h.part.kinds;
  };
}

pub state_at : (p : Network) (b : PartBox) (a : ℕ) (state : Option ArcState) → IsBoxAt p b → IsStateOf p a state → IsBoxAt p (with_part b (put_state b.part a state))
state_at p b a state h t = record {
  within = h.within;
  bounds = h.bounds;
  part = record {
    picks = h.part.picks;
    states = length-set b.part.states a state ∙ h.part.states;
    within = h.part.within;
    kinds = λ i row s e n. elim (set_cases b.part.states a i state (Some s) n) [
      | inl old ↦ h.part.kinds i row s e old
      | inr new ↦ t.kind row s (ap (slice_get p.arcs) (sym new.0) ∙ e) new.1
    ];
  };
}

-- what is there before a change may be put back
pub old_pick : (p : Network) (b : PartBox) (k : ℕ) → IsBoxAt p b → k < length p.groups → IsPickOf p k (get_or b.part.picks k None)
old_pick p b k h l = record {
  group = l;
  within = λ g j e s.
      let inside : k < length b.part.picks = (let same = h.part.picks in omega (arith, l, same)) in
      h.part.within k g j e (slice_get-get_or b.part.picks k None inside ∙ ap Some s);
}

pub old_state : (p : Network) (b : PartBox) (a : ℕ) → IsBoxAt p b → a < length p.arcs → IsStateOf p a (get_or b.part.states a None)
old_state p b a h l = record {
  arc = l;
  kind = λ row s e n.
      let inside : a < length b.part.states = (let same = h.part.states in omega (arith, l, same)) in
      h.part.kinds a row s e (slice_get-get_or b.part.states a None inside ∙ ap Some n);
}

-- ends of which one becomes a value that it may have
pub end_limited : (K : ℤ) (var : Var) (low : Bool) (C : ℤ) (e : Ends) → AreLimited K var e → IsLimited K var C → AreLimited K var (with_end low C e)
end_limited K (Flow a) true C e h t = record { low_from = t.0; low_to = omega (arith, linear, t.1); high_from = h.high_from; high_to = h.high_to }
end_limited K (Flow a) false C e h t = record { low_from = h.low_from; low_to = h.low_to; high_from = omega (arith, linear, t.0); high_to = t.1 }
end_limited K (Square n) true C e h t = record { low_from = t.0; low_to = omega (arith, linear, t.1); high_from = h.high_from; high_to = h.high_to }
end_limited K (Square n) false C e h t = record { low_from = h.low_from; low_to = h.low_to; high_from = omega (arith, linear, t.0); high_to = t.1 }

-- a value strictly between ends
inner_limited : (K : ℤ) (var : Var) (C : ℤ) (e : Ends) → AreLimited K var e → e.lo <ℤ C → C <ℤ e.hi → IsLimited K var C
inner_limited K (Flow a) C e h a1 b1 = (omega (arith, linear, h.low_from, a1), omega (arith, linear, h.high_to, b1))
inner_limited K (Square n) C e h a1 b1 = (omega (arith, linear, h.low_from, a1), omega (arith, linear, h.high_to, b1))

pub inside_limited : (K : ℤ) (var : Var) (C : ℤ) (e : Ends) → AreLimited K var e → lies_inside e C ≡ true → IsLimited K var C
inside_limited K var C e h t =
    let parts = and_parts (int_lt e.lo C) (int_lt C e.hi) t in
    inner_limited K var C e h (omega (arith, linear, parts.0)) (omega (arith, linear, parts.1))

-- a value that an end may become is one that the formulas of the laws take
pub moved_safe : (K : ℤ) (var : Var) (low : Bool) (C : ℤ) (e : Ends) → IsScale K → AreLimited K var e → IsTrue (may_become low C e) → IsSafe var C
moved_safe K (Flow a) true C e k h t = (safe_flows K (with_end true C e) k (end_moved K (Flow a) true C e h t)).lo
moved_safe K (Flow a) false C e k h t = (safe_flows K (with_end false C e) k (end_moved K (Flow a) false C e h t)).hi
moved_safe K (Square n) true C e k h t = (safe_squares K (with_end true C e) k (end_moved K (Square n) true C e h t)).lo
moved_safe K (Square n) false C e k h t = (safe_squares K (with_end false C e) k (end_moved K (Square n) false C e h t)).hi
