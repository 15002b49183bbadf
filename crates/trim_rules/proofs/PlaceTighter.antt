-- Places of a text within those of the same text with some steps less.
use Rattle.std.proofs.Common.{◌≡◌, ℕ, refl, sym, ap, ◌∙◌, subst, arith, pos, ◌≤ℤ◌, Bool, true, false, cond, ◌&&◌, not, IsTrue, List, [], ◌∷◌, map, Option, Some, None, option_map, Ok, Err}
use Rattle.std.specs.Prelude.{option_and_then, is_some, slice_get, length}
use Rattle.std.specs.List.{range_with_len}
use Rattle.std.proofs.lemmas.Bool.{and_parts, and_from}
use Rattle.integer_laws.proofs.Ring.{linear}
use Rattle.base_types.specs.declared.states.ArcState.{ArcState}
use Rattle.base_types.specs.declared.variables.Var.{Var}
use Rattle.gas_model.specs.declared.rows.ArcRow.{ArcRow}
use Rattle.gas_model.specs.declared.rows.PartState.{PartState}
use Rattle.gas_model.specs.Rows.{Network}
use Rattle.gas_model.specs.Boxes.{BoxFits, ends_of, is_var, may_become}
use Rattle.gas_model.specs.Choices.{allowed_states}
use Rattle.gas_model.specs.Rulings.{is_free, pick_in}
use Rattle.gas_model.proofs.BoxFacts.{opening_fits}
use Rattle.gas_model.specs.Within.{IsWithin}
use Rattle.tree_cert.specs.declared.fault.FaultKind.TheVariants.{NotTree, BadStep, WrongBranch}
use Rattle.tree_cert.specs.declared.line.Head.{Head}
use Rattle.tree_cert.specs.declared.line.Head.TheVariants.{Take, State, Half}
use Rattle.tree_cert.specs.declared.line.Line.{Line}
use Rattle.tree_cert.specs.declared.line.Line.TheVariants as lines
use Rattle.tree_cert.specs.declared.line.Step.{Step}
use Rattle.tree_cert.specs.Tree.{Branch, ByGroup, ByArc, ByHalves}
use Rattle.tree_cert.specs.TreeRules.{TreeRules}
use Rattle.tree_cert.specs.Place.{Place, Start, Inside, Expecting, Whole, Ended, after, allowed, read, read_first, read_branch, read_inside, read_expected, read_whole}
use Rattle.tree_cert.proofs.Options.{allowed_ok, cond_ok}
use Rattle.tree_cert.proofs.Walks.{ended_refuses}
use Rattle.tree_rules.specs.Rules.{PartBox, rule_holds, is_allowed, step_holds, stepped, after_step, closing_holds}
use Rattle.tree_rules.specs.Branches.{Wait, Heads, Halves, headed, decision_heads, group_heads, state_heads, arc_heads, after_branch, same_var, same_head, lies_inside, lower_half, upper_half, after_head, is_over, root_box, root_of, rules_of}
use Rattle.tree_rules.specs.ArcRules.{keeps_sign}
use Rattle.tree_rules.proofs.StepSound.{map_is}
use Rattle.tree_rules.proofs.TreeSound.{if_some}
use Rattle.trim_rules.specs.Tighter.{IsTighter}
use Rattle.trim_rules.proofs.RuleTighter.{rule_tighter, closing_holds_too}
use Rattle.trim_rules.proofs.BoxTighter.{HasVar, same_box, both_stepped, inner_stepped, both_headed, loosely, between_loosely}

module _ (p : Network) where
  abbrev G : TreeRules
  G = rules_of p

  -- the same heads are expected at a tighter box, and all of them have variables of the problem
  abbrev pub AreHeads : List Head → Type 0
  AreHeads [] = Unit {0}
  AreHeads (h ∷ hs) = HasVar p h × AreHeads hs

  abbrev pub WaitsWithin : Wait → Wait → Type 0
  WaitsWithin (Heads b hs) (Heads c ks) = IsTighter p b c × (hs ≡ ks) × AreHeads hs
  WaitsWithin (Halves b v) (Halves c x) = IsTighter p b c × (v ≡ x) × IsTrue (is_var p v)
  WaitsWithin w x = ⊥

  abbrev pub AllWithin : List Wait → List Wait → Type 0
  AllWithin [] [] = Unit {0}
  AllWithin (w ∷ ws) (x ∷ xs) = WaitsWithin w x × AllWithin ws xs
  AllWithin ws xs = ⊥

  abbrev pub PlacesWithin : Place G → Place G → Type 0
  PlacesWithin Start Start = Unit {0}
  PlacesWithin (Inside b ws) (Inside c xs) = IsTighter p b c × AllWithin ws xs
  PlacesWithin (Expecting w ws) (Expecting x xs) = WaitsWithin w x × AllWithin ws xs
  PlacesWithin Whole Whole = Unit {0}
  PlacesWithin Ended Ended = Unit {0}
  PlacesWithin a b = ⊥

  -- ---- what is expected after a branch
  takes_named : (k : ℕ) (js : List ℕ) → AreHeads (map (Take k) js)
  takes_named k [] = tt
  takes_named k (j ∷ js) = (tt, takes_named k js)

  states_named : (a : ℕ) (states : List ArcState) → AreHeads (map (State a) states)
  states_named a [] = tt
  states_named a (s ∷ states) = (tt, states_named a states)

  unpicked : (picked : Bool) (o : Option (List Head)) (hs : List Head) → cond picked None o ≡ Some hs → o ≡ Some hs
  unpicked true o hs e = absurd cc
  unpicked false o hs e = e

  group_named : (part : PartState) (k : ℕ) (hs : List Head) → group_heads p part k ≡ Some hs → AreHeads hs
  group_named part k hs e =
      let g = map_is (decision_heads k) (slice_get p.groups k) hs (unpicked (is_some (pick_in part.picks k)) (option_map (decision_heads k) (slice_get p.groups k)) hs e) in
      subst AreHeads g.2 (takes_named k (range_with_len 0 (length g.0.decisions)))

  row_named : (part : PartState) (a : ℕ) (o : Option ArcRow) (hs : List Head) → option_and_then (state_heads p part a) o ≡ Some hs → AreHeads hs
  row_named part a None hs e = absurd cc
  row_named part a (Some row) hs e =
      let t = if_some (is_free p part a row) (map (State a) (allowed_states p part a row)) hs e in
      subst AreHeads t.1 (states_named a (allowed_states p part a row))

  arc_named : (part : PartState) (a : ℕ) (hs : List Head) → arc_heads p part a ≡ Some hs → AreHeads hs
  arc_named part a hs e = row_named part a (slice_get p.arcs a) hs e

  one_list : (o q : Option (List Head)) (hs ks : List Head) → o ≡ q → o ≡ Some hs → q ≡ Some ks → hs ≡ ks
  one_list o q hs ks e i j = cc

  at_waits : (w w2 x x2 : Wait) → w ≡ w2 → x ≡ x2 → WaitsWithin w x → WaitsWithin w2 x2
  at_waits w w2 x x2 e i h = subst (λ (z : Wait). WaitsWithin w2 z) i (subst (λ (z : Wait). WaitsWithin z x) e h)

  branch_both : (b c : PartBox) (f : Branch) (w x : Wait) → IsTighter p b c → after_branch p b f ≡ Some w → after_branch p c f ≡ Some x → WaitsWithin w x
  branch_both b c (ByGroup k) w x t e i =
      let m = map_is (Heads b) (group_heads p b.part k) w e in
      let n = map_is (Heads c) (group_heads p c.part k) x i in
      let same = one_list (group_heads p b.part k) (group_heads p c.part k) m.0 n.0 (ap (λ z. group_heads p z k) t.part) m.1 n.1 in
      at_waits (Heads b m.0) w (Heads c n.0) x m.2 n.2 (t, same, group_named b.part k m.0 m.1)
  branch_both b c (ByArc a) w x t e i =
      let m = map_is (Heads b) (arc_heads p b.part a) w e in
      let n = map_is (Heads c) (arc_heads p c.part a) x i in
      let same = one_list (arc_heads p b.part a) (arc_heads p c.part a) m.0 n.0 (ap (λ z. arc_heads p z a) t.part) m.1 n.1 in
      at_waits (Heads b m.0) w (Heads c n.0) x m.2 n.2 (t, same, arc_named b.part a m.0 m.1)
  branch_both b c (ByHalves v) w x t e i =
      let m = if_some (is_var p v) (Halves b v) w e in
      let n = if_some (is_var p v) (Halves c v) x i in
      at_waits (Halves b v) w (Halves c v) x m.1 n.1 (t, refl, m.0)

  -- a branch that is allowed is allowed in a tighter box
  branch_too : (b c : PartBox) (f : Branch) (w : Wait) → IsTighter p b c → after_branch p b f ≡ Some w → (x : Wait) × (after_branch p c f ≡ Some x)
  branch_too b c (ByGroup k) w t e =
      let m = map_is (Heads b) (group_heads p b.part k) w e in
      (Heads c m.0, ap (λ z. option_map (Heads c) (group_heads p z k)) (sym t.part) ∙ ap (option_map (Heads c)) m.1)
  branch_too b c (ByArc a) w t e =
      let m = map_is (Heads b) (arc_heads p b.part a) w e in
      (Heads c m.0, ap (λ z. option_map (Heads c) (arc_heads p z a)) (sym t.part) ∙ ap (option_map (Heads c)) m.1)
  branch_too b c (ByHalves v) w t e =
      let m = if_some (is_var p v) (Halves b v) w e in
      (Halves c v, ap (λ z. cond z (Some (Halves c v)) None) m.0)

  -- ---- heads
  at_next : (n n2 m m2 : PartBox × Wait) → n ≡ n2 → m ≡ m2 → IsTighter p n.0 m.0 × WaitsWithin n.1 m.1 → IsTighter p n2.0 m2.0 × WaitsWithin n2.1 m2.1
  at_next n n2 m m2 e i h =
      subst (λ (z : PartBox × Wait). IsTighter p n2.0 z.0 × WaitsWithin n2.1 z.1) i (subst (λ (z : PartBox × Wait). IsTighter p z.0 m.0 × WaitsWithin z.1 m.1) e h)

  listed_both : (b c : PartBox) (d : Head) (hs ks : List Head) (n m : PartBox × Wait) → WaitsWithin (Heads b hs) (Heads c ks) → after_head (Heads b hs) d ≡ Some n → after_head (Heads c ks) d ≡ Some m → IsTighter p n.0 m.0 × WaitsWithin n.1 m.1
  listed_both b c d [] ks n m h e i = absurd cc
  listed_both b c d (x ∷ xs) [] n m h e i = absurd cc
  listed_both b c d (x ∷ xs) (y ∷ ys) n m h e i =
      let s : PartBox × Wait = (headed b x, Heads b xs) in
      let t : PartBox × Wait = (headed c y, Heads c ys) in
      let f = if_some (same_head d x) s n e in
      let g = if_some (same_head d y) t m i in
      let list : x ∷ xs ≡ y ∷ ys = h.1 in
      let first : x ≡ y = cc in
      let rest : xs ≡ ys = cc in
      at_next s n t m f.1 g.1 (subst (λ (z : Head). IsTighter p (headed b x) (headed c z)) first (both_headed p b c x h.2.0 h.0), (h.0, rest, h.2.1))

  halved_both : (b c : PartBox) (v : Var) (d : Head) (n m : PartBox × Wait) → IsTighter p b c → IsTrue (is_var p v) → after_head (Halves b v) d ≡ Some n → after_head (Halves c v) d ≡ Some m → IsTighter p n.0 m.0 × WaitsWithin n.1 m.1
  halved_both b c v (Take k j) n m t is e i = absurd cc
  halved_both b c v (State a s) n m t is e i = absurd cc
  halved_both b c v (Half w low C) n m t is e i =
      let s : PartBox × Wait = (headed b (lower_half v C), Heads b (upper_half v C ∷ [])) in
      let r : PartBox × Wait = (headed c (lower_half v C), Heads c (upper_half v C ∷ [])) in
      let f = if_some (same_var w v && not low && lies_inside (ends_of b.bounds v) C) s n e in
      let g = if_some (same_var w v && not low && lies_inside (ends_of c.bounds v) C) r m i in
      at_next s n r m f.1 g.1 (both_headed p b c (lower_half v C) is t, (t, refl, (is, tt)))

  head_both : (w x : Wait) (d : Head) (n m : PartBox × Wait) → WaitsWithin w x → after_head w d ≡ Some n → after_head x d ≡ Some m → IsTighter p n.0 m.0 × WaitsWithin n.1 m.1
  head_both (Heads b hs) (Heads c ks) d n m h e i = listed_both b c d hs ks n m h e i
  head_both (Halves b v) (Halves c x) d n m h e i = halved_both b c v d n m h.0 h.2 e (ap (λ z. after_head (Halves c z) d) h.1 ∙ i)
  head_both (Heads b hs) (Halves c x) d n m h e i = absurd h
  head_both (Halves b v) (Heads c ks) d n m h e i = absurd h

  listed_too : (b c : PartBox) (d : Head) (hs : List Head) (n : PartBox × Wait) → after_head (Heads b hs) d ≡ Some n → (m : PartBox × Wait) × (after_head (Heads c hs) d ≡ Some m)
  listed_too b c d [] n e = absurd cc
  listed_too b c d (x ∷ xs) n e =
      let s : PartBox × Wait = (headed b x, Heads b xs) in
      let f = if_some (same_head d x) s n e in
      ((headed c x, Heads c xs), ap (λ z. cond z (Some (headed c x, Heads c xs)) None) f.0)

  halved_too : (c y : PartBox) (v : Var) (d : Head) (m : PartBox × Wait) → IsTighter p c y → after_head (Halves y v) d ≡ Some m → (n : PartBox × Wait) × (after_head (Halves c v) d ≡ Some n)
  halved_too c y v (Take k j) m t e = absurd cc
  halved_too c y v (State a s) m t e = absurd cc
  halved_too c y v (Half w low C) m t e =
      let r : PartBox × Wait = (headed y (lower_half v C), Heads y (upper_half v C ∷ [])) in
      let f = if_some (same_var w v && not low && lies_inside (ends_of y.bounds v) C) r m e in
      let parts = and_parts (same_var w v && not low) (lies_inside (ends_of y.bounds v) C) f.0 in
      let held = and_from (same_var w v && not low) (lies_inside (ends_of c.bounds v) C) parts.0 (between_loosely C (ends_of c.bounds v) (ends_of y.bounds v) (t.within v) parts.1) in
      ((headed c (lower_half v C), Heads c (upper_half v C ∷ [])), ap (λ z. cond z (Some (headed c (lower_half v C), Heads c (upper_half v C ∷ []))) None) held)

  -- a head that is expected at a box and at a tighter one is expected between them
  head_between : (w x y : Wait) (d : Head) (n m : PartBox × Wait) → WaitsWithin w x → WaitsWithin x y → after_head w d ≡ Some n → after_head y d ≡ Some m → (k : PartBox × Wait) × (after_head x d ≡ Some k)
  head_between (Heads b hs) (Heads c ks) (Heads z js) d n m h g e i =
      let there = listed_too b c d hs n e in
      (there.0, ap (λ l. after_head (Heads c l) d) (sym h.1) ∙ there.1)
  head_between (Halves b v) (Halves c x) (Halves z u) d n m h g e i = halved_too c z x d m g.0 (ap (λ (l : Var). after_head (Halves z l) d) g.1 ∙ i)
  head_between (Heads b hs) (Halves c x) y d n m h g e i = absurd h
  head_between (Halves b v) (Heads c ks) y d n m h g e i = absurd h
  head_between (Heads b hs) (Heads c ks) (Halves z u) d n m h g e i = absurd g
  head_between (Halves b v) (Halves c x) (Heads z js) d n m h g e i = absurd g

  -- ---- places
  at_places : (P P2 Q Q2 : Place G) → P ≡ P2 → Q ≡ Q2 → PlacesWithin P Q → PlacesWithin P2 Q2
  at_places P P2 Q Q2 e i h = subst (λ (z : Place G). PlacesWithin P2 z) i (subst (λ (z : Place G). PlacesWithin z Q) e h)

  over_same : (w x : Wait) → WaitsWithin w x → is_over w ≡ is_over x
  over_same (Heads b []) (Heads c []) h = refl
  over_same (Heads b []) (Heads c (k ∷ ks)) h = absurd (let e : [] ≡ k ∷ ks = h.1 in cc)
  over_same (Heads b (d ∷ hs)) (Heads c []) h = absurd (let e : d ∷ hs ≡ [] = h.1 in cc)
  over_same (Heads b (d ∷ hs)) (Heads c (k ∷ ks)) h = refl
  over_same (Halves b v) (Halves c x) h = refl
  over_same (Heads b hs) (Halves c x) h = absurd h
  over_same (Halves b v) (Heads c ks) h = absurd h

  by_over : (t s : Bool) (A B C D : Place G) → t ≡ s → PlacesWithin A B → PlacesWithin C D → PlacesWithin (cond t A C) (cond s B D)
  by_over true true A B C D e f g = f
  by_over false false A B C D e f g = g
  by_over true false A B C D e f g = absurd cc
  by_over false true A B C D e f g = absurd cc

  after_within : (ws xs : List Wait) → AllWithin ws xs → PlacesWithin (after G ws) (after G xs)
  after_within [] [] h = tt
  after_within [] (x ∷ xs) h = absurd h
  after_within (w ∷ ws) [] h = absurd h
  after_within (w ∷ ws) (x ∷ xs) h = by_over (is_over w) (is_over x) _ _ (Expecting w ws) (Expecting x xs) (over_same w x h.0) (after_within ws xs h.1) h

  step_facts : (b n : PartBox) (s : Step) → after_step p b s ≡ Some n → IsTrue (step_holds p b s) × (stepped b s ≡ n)
  step_facts b n s e = if_some (step_holds p b s) (stepped b s) n e

  -- what an allowed step asks for
  record Allows (b : PartBox) (s : Step) : Type 0 where
    is : IsTrue (is_var p s.var)
    may : IsTrue (may_become s.low s.value (ends_of b.bounds s.var))
    sign : IsTrue (keeps_sign s.rule s.value)
    rule : IsTrue (rule_holds p b s.rule s.place s.var s.low s.value)

  allows : (b : PartBox) (s : Step) → IsTrue (step_holds p b s) → Allows b s
  allows b s t =
      let x = and_parts (is_var p s.var && is_allowed b.bounds s.rule s.var s.low s.value) (rule_holds p b s.rule s.place s.var s.low s.value) t in
      let y = and_parts (is_var p s.var) (is_allowed b.bounds s.rule s.var s.low s.value) x.0 in
      let z = and_parts (may_become s.low s.value (ends_of b.bounds s.var)) (keeps_sign s.rule s.value) y.1 in
      record { is = y.0; may = z.0; sign = z.1; rule = x.1 }

  allowed_from : (b : PartBox) (s : Step) → Allows b s → IsTrue (step_holds p b s)
  allowed_from b s a =
      and_from (is_var p s.var && is_allowed b.bounds s.rule s.var s.low s.value) (rule_holds p b s.rule s.place s.var s.low s.value)
      (and_from (is_var p s.var) (is_allowed b.bounds s.rule s.var s.low s.value) a.is
      (and_from (may_become s.low s.value (ends_of b.bounds s.var)) (keeps_sign s.rule s.value) a.may a.sign)) a.rule

  -- ---- the same line at a place and at one within it
  root_fits : (l : Line) (b : PartBox) → root_of p l ≡ Some b → (pos 1 ≤ℤ b.scale) × BoxFits p b.bounds
  root_fits lines.First b e = let s : root_box (pos 1) p ≡ b = cc in subst (λ (z : PartBox). (pos 1 ≤ℤ z.scale) × BoxFits p z.bounds) s (omega (arith, linear), opening_fits (pos 1) p)
  root_fits lines.FirstSixteenths b e = let s : root_box (pos 16) p ≡ b = cc in subst (λ (z : PartBox). (pos 1 ≤ℤ z.scale) × BoxFits p z.bounds) s (omega (arith, linear), opening_fits (pos 16) p)
  root_fits l b e = absurd cc

  branch_places : (b c : PartBox) (ws xs : List Wait) (f : Branch) (P Q : Place G) → IsTighter p b c → AllWithin ws xs → read_branch G b ws f ≡ Ok P → read_branch G c xs f ≡ Ok Q → PlacesWithin P Q
  branch_places b c ws xs f P Q t a e i =
      let m = allowed_ok (after_branch p b f) WrongBranch (λ w. after G (w ∷ ws)) P e in
      let n = allowed_ok (after_branch p c f) WrongBranch (λ x. after G (x ∷ xs)) Q i in
      at_places (after G (m.0 ∷ ws)) P (after G (n.0 ∷ xs)) Q m.2 n.2 (after_within (m.0 ∷ ws) (n.0 ∷ xs) (branch_both b c f m.0 n.0 t m.1 n.1, a))

  inside_both : (b c : PartBox) (ws xs : List Wait) (l : Line) (P Q : Place G) → IsTighter p b c → AllWithin ws xs → read_inside G b ws l ≡ Ok P → read_inside G c xs l ≡ Ok Q → PlacesWithin P Q
  inside_both b c ws xs lines.First P Q t a e i = absurd cc
  inside_both b c ws xs lines.FirstSixteenths P Q t a e i = absurd cc
  inside_both b c ws xs (lines.Step s) P Q t a e i =
      let m = allowed_ok (after_step p b s) BadStep (λ next. Inside next ws) P e in
      let n = allowed_ok (after_step p c s) BadStep (λ next. Inside next xs) Q i in
      let f = step_facts b m.0 s m.1 in
      let g = step_facts c n.0 s n.1 in
      at_places (Inside (stepped b s) ws) P (Inside (stepped c s) xs) Q (ap (λ z. Inside z ws) f.1 ∙ m.2) (ap (λ z. Inside z xs) g.1 ∙ n.2) (both_stepped p b c s (allows b s f.0).is t, a)
  inside_both b c ws xs (lines.Close d) P Q t a e i =
      let m = cond_ok (closing_holds p b d) BadStep (after G ws) P e in
      let n = cond_ok (closing_holds p c d) BadStep (after G xs) Q i in
      at_places (after G ws) P (after G xs) Q m.1 n.1 (after_within ws xs a)
  inside_both b c ws xs lines.LeftOpen P Q t a e i =
      let m : after G ws ≡ P = cc in
      let n : after G xs ≡ Q = cc in
      at_places (after G ws) P (after G xs) Q m n (after_within ws xs a)
  inside_both b c ws xs (lines.Group k) P Q t a e i = branch_places b c ws xs (ByGroup k) P Q t a e i
  inside_both b c ws xs (lines.Arc k) P Q t a e i = branch_places b c ws xs (ByArc k) P Q t a e i
  inside_both b c ws xs (lines.Halve v) P Q t a e i = branch_places b c ws xs (ByHalves v) P Q t a e i
  inside_both b c ws xs (lines.Head d) P Q t a e i = absurd cc
  inside_both b c ws xs lines.End P Q t a e i = absurd cc

  expected_both : (w x : Wait) (ws xs : List Wait) (l : Line) (P Q : Place G) → WaitsWithin w x → AllWithin ws xs → read_expected G w ws l ≡ Ok P → read_expected G x xs l ≡ Ok Q → PlacesWithin P Q
  expected_both w x ws xs (lines.Head d) P Q h a e i =
      let m = allowed_ok (after_head w d) WrongBranch (λ next. Inside next.0 (next.1 ∷ ws)) P e in
      let n = allowed_ok (after_head x d) WrongBranch (λ next. Inside next.0 (next.1 ∷ xs)) Q i in
      let r = head_both w x d m.0 n.0 h m.1 n.1 in
      at_places (Inside m.0.0 (m.0.1 ∷ ws)) P (Inside n.0.0 (n.0.1 ∷ xs)) Q m.2 n.2 (r.0, (r.1, a))
  expected_both w x ws xs lines.First P Q h a e i = absurd cc
  expected_both w x ws xs lines.FirstSixteenths P Q h a e i = absurd cc
  expected_both w x ws xs (lines.Step s) P Q h a e i = absurd cc
  expected_both w x ws xs (lines.Close d) P Q h a e i = absurd cc
  expected_both w x ws xs lines.LeftOpen P Q h a e i = absurd cc
  expected_both w x ws xs (lines.Group k) P Q h a e i = absurd cc
  expected_both w x ws xs (lines.Arc k) P Q h a e i = absurd cc
  expected_both w x ws xs (lines.Halve v) P Q h a e i = absurd cc
  expected_both w x ws xs lines.End P Q h a e i = absurd cc

  whole_both : (l : Line) (P Q : Place G) → read_whole G l ≡ Ok P → read_whole G l ≡ Ok Q → PlacesWithin P Q
  whole_both lines.End P Q e i = at_places Ended P Ended Q (let m : Ended ≡ P = cc in m) (let n : Ended ≡ Q = cc in n) tt
  whole_both lines.First P Q e i = absurd cc
  whole_both lines.FirstSixteenths P Q e i = absurd cc
  whole_both (lines.Head d) P Q e i = absurd cc
  whole_both (lines.Step s) P Q e i = absurd cc
  whole_both (lines.Close d) P Q e i = absurd cc
  whole_both lines.LeftOpen P Q e i = absurd cc
  whole_both (lines.Group k) P Q e i = absurd cc
  whole_both (lines.Arc k) P Q e i = absurd cc
  whole_both (lines.Halve v) P Q e i = absurd cc

  opened_both : (l : Line) (P Q : Place G) → read_first G l ≡ Ok P → read_first G l ≡ Ok Q → PlacesWithin P Q
  opened_both l P Q e i =
      let m = allowed_ok (root_of p l) NotTree (λ b. Inside b []) P e in
      let n : P ≡ Q = cc in
      at_places (Inside m.0 []) P (Inside m.0 []) Q m.2 (m.2 ∙ n) (same_box p m.0 (root_fits l m.0 m.1).0 (root_fits l m.0 m.1).1, tt)

  pub read_both : (A B : Place G) (l : Line) (P Q : Place G) → PlacesWithin A B → read G A l ≡ Ok P → read G B l ≡ Ok Q → PlacesWithin P Q
  read_both Start Start l P Q h e i = opened_both l P Q e i
  read_both (Inside b ws) (Inside c xs) l P Q h e i = inside_both b c ws xs l P Q h.0 h.1 e i
  read_both (Expecting w ws) (Expecting x xs) l P Q h e i = expected_both w x ws xs l P Q h.0 h.1 e i
  read_both Whole Whole l P Q h e i = whole_both l P Q e i
  read_both Ended B l P Q h e i = absurd (ended_refuses G l P e)
  read_both A Ended l P Q h e i = absurd (ended_refuses G l Q i)
  read_both A B l P Q h e i = absurd h

  -- ---- a step more at the inner place
  inside_inner : (b c : PartBox) (ws xs : List Wait) (s : Step) (Q : Place G) → IsTighter p b c → AllWithin ws xs → read_inside G c xs (lines.Step s) ≡ Ok Q → PlacesWithin (Inside b ws) Q
  inside_inner b c ws xs s Q t a i =
      let n = allowed_ok (after_step p c s) BadStep (λ next. Inside next xs) Q i in
      let g = step_facts c n.0 s n.1 in
      let f = allows c s g.0 in
      at_places (Inside b ws) (Inside b ws) (Inside (stepped c s) xs) Q refl (ap (λ z. Inside z xs) g.1 ∙ n.2) (inner_stepped p b c s f.is f.may t, a)

  no_first_step : (s : Step) (Q : Place G) → read_first G (lines.Step s) ≡ Ok Q → ⊥
  no_first_step s Q e = cc

  no_whole_step : (s : Step) (Q : Place G) → read_whole G (lines.Step s) ≡ Ok Q → ⊥
  no_whole_step s Q e = cc

  no_expected_step : (w : Wait) (ws : List Wait) (s : Step) (Q : Place G) → read_expected G w ws (lines.Step s) ≡ Ok Q → ⊥
  no_expected_step w ws s Q e = cc

  pub read_inner : (A B : Place G) (s : Step) (Q : Place G) → PlacesWithin A B → read G B (lines.Step s) ≡ Ok Q → PlacesWithin A Q
  read_inner (Inside b ws) (Inside c xs) s Q h i = inside_inner b c ws xs s Q h.0 h.1 i
  read_inner A Start s Q h i = absurd (no_first_step s Q i)
  read_inner A (Expecting w ws) s Q h i = absurd (no_expected_step w ws s Q i)
  read_inner A Whole s Q h i = absurd (no_whole_step s Q i)
  read_inner A Ended s Q h i = absurd (ended_refuses G (lines.Step s) Q i)
  read_inner A (Inside c xs) s Q h i = absurd h

  -- ---- a line that is right at a place and at one within it is right between them
  module _ (w : IsWithin p) where
    step_between : (b c d : PartBox) (s : Step) → IsTighter p b c → IsTighter p c d → IsTrue (step_holds p b s) → IsTrue (step_holds p d s) → IsTrue (step_holds p c s)
    step_between b c d s t u f g =
        let x = allows b s f in
        let y = allows d s g in
        allowed_from c s (record {
          is = x.is;
          may = loosely s.low s.value (ends_of c.bounds s.var) (ends_of d.bounds s.var) (u.within s.var) y.may;
          sign = x.sign;
          rule = rule_tighter p b c w t s.rule s.place s.var s.low s.value x.rule;
        })

    branch_between : (b c : PartBox) (xs : List Wait) (ws : List Wait) (f : Branch) (P : Place G) → IsTighter p b c → read_branch G b ws f ≡ Ok P → (Q : Place G) × (read_branch G c xs f ≡ Ok Q)
    branch_between b c xs ws f P t e =
        let m = allowed_ok (after_branch p b f) WrongBranch (λ w. after G (w ∷ ws)) P e in
        let n = branch_too b c f m.0 t m.1 in
        (after G (n.0 ∷ xs), ap (λ o. allowed o WrongBranch (λ x. after G (x ∷ xs))) n.1)

    inside_between : (b c d : PartBox) (ws xs ys : List Wait) (l : Line) (P R : Place G) → IsTighter p b c → IsTighter p c d → read_inside G b ws l ≡ Ok P → read_inside G d ys l ≡ Ok R → (Q : Place G) × (read_inside G c xs l ≡ Ok Q)
    inside_between b c d ws xs ys lines.First P R t u e i = absurd cc
    inside_between b c d ws xs ys lines.FirstSixteenths P R t u e i = absurd cc
    inside_between b c d ws xs ys (lines.Step s) P R t u e i =
        let m = allowed_ok (after_step p b s) BadStep (λ next. Inside next ws) P e in
        let n = allowed_ok (after_step p d s) BadStep (λ next. Inside next ys) R i in
        let held = step_between b c d s t u (step_facts b m.0 s m.1).0 (step_facts d n.0 s n.1).0 in
        (Inside (stepped c s) xs, ap (λ z. allowed (cond z (Some (stepped c s)) None) BadStep (λ next. Inside next xs)) held)
    inside_between b c d ws xs ys (lines.Close k) P R t u e i =
        let m = cond_ok (closing_holds p b k) BadStep (after G ws) P e in
        let held = closing_holds_too p b c w t k m.0 in
        (after G xs, ap (λ z. cond z (Ok (after G xs)) (Err BadStep)) held)
    inside_between b c d ws xs ys lines.LeftOpen P R t u e i = (after G xs, refl)
    inside_between b c d ws xs ys (lines.Group k) P R t u e i = branch_between b c xs ws (ByGroup k) P t e
    inside_between b c d ws xs ys (lines.Arc k) P R t u e i = branch_between b c xs ws (ByArc k) P t e
    inside_between b c d ws xs ys (lines.Halve v) P R t u e i = branch_between b c xs ws (ByHalves v) P t e
    inside_between b c d ws xs ys (lines.Head k) P R t u e i = absurd cc
    inside_between b c d ws xs ys lines.End P R t u e i = absurd cc

    expected_between : (x y z : Wait) (xs ys zs : List Wait) (l : Line) (P R : Place G) → WaitsWithin x y → WaitsWithin y z → read_expected G x xs l ≡ Ok P → read_expected G z zs l ≡ Ok R → (Q : Place G) × (read_expected G y ys l ≡ Ok Q)
    expected_between x y z xs ys zs (lines.Head d) P R h g e i =
        let m = allowed_ok (after_head x d) WrongBranch (λ next. Inside next.0 (next.1 ∷ xs)) P e in
        let n = allowed_ok (after_head z d) WrongBranch (λ next. Inside next.0 (next.1 ∷ zs)) R i in
        let k = head_between x y z d m.0 n.0 h g m.1 n.1 in
        (Inside k.0.0 (k.0.1 ∷ ys), ap (λ o. allowed o WrongBranch (λ next. Inside next.0 (next.1 ∷ ys))) k.1)
    expected_between x y z xs ys zs lines.First P R h g e i = absurd cc
    expected_between x y z xs ys zs lines.FirstSixteenths P R h g e i = absurd cc
    expected_between x y z xs ys zs (lines.Step s) P R h g e i = absurd cc
    expected_between x y z xs ys zs (lines.Close d) P R h g e i = absurd cc
    expected_between x y z xs ys zs lines.LeftOpen P R h g e i = absurd cc
    expected_between x y z xs ys zs (lines.Group k) P R h g e i = absurd cc
    expected_between x y z xs ys zs (lines.Arc k) P R h g e i = absurd cc
    expected_between x y z xs ys zs (lines.Halve v) P R h g e i = absurd cc
    expected_between x y z xs ys zs lines.End P R h g e i = absurd cc

    inside_then : (b c : PartBox) (ws xs : List Wait) (C : Place G) (l : Line) (P R : Place G) → IsTighter p b c → PlacesWithin (Inside c xs) C → read_inside G b ws l ≡ Ok P → read G C l ≡ Ok R → (Q : Place G) × (read_inside G c xs l ≡ Ok Q)
    inside_then b c ws xs (Inside d ys) l P R h g e i = inside_between b c d ws xs ys l P R h g.0 e i
    inside_then b c ws xs C l P R h g e i = absurd g

    expected_then : (x y : Wait) (xs ys : List Wait) (C : Place G) (l : Line) (P R : Place G) → WaitsWithin x y → PlacesWithin (Expecting y ys) C → read_expected G x xs l ≡ Ok P → read G C l ≡ Ok R → (Q : Place G) × (read_expected G y ys l ≡ Ok Q)
    expected_then x y xs ys (Expecting z zs) l P R h g e i = expected_between x y z xs ys zs l P R h g.0 e i
    expected_then x y xs ys C l P R h g e i = absurd g

    pub read_between : (A B C : Place G) (l : Line) (P R : Place G) → PlacesWithin A B → PlacesWithin B C → read G A l ≡ Ok P → read G C l ≡ Ok R → (Q : Place G) × (read G B l ≡ Ok Q)
    read_between Start Start C l P R h g e i = (P, e)
    read_between (Inside b ws) (Inside c xs) C l P R h g e i = inside_then b c ws xs C l P R h.0 g e i
    read_between (Expecting x xs) (Expecting y ys) C l P R h g e i = expected_then x y xs ys C l P R h.0 g e i
    read_between Whole Whole C l P R h g e i = (P, e)
    read_between Ended Ended C l P R h g e i = (P, e)
    read_between A B C l P R h g e i = absurd h
