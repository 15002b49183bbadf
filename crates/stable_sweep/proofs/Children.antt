-- What a stable box says of its children.
use Rattle.std.proofs.Common.{◌≡◌, ◌≢◌, ◌⊎◌, ℕ, ◌+◌, ◌==◌, refl, sym, ap, ◌∙◌, subst, inl, inr, arith, ℤ, ◌≤ℤ◌, Bool, true, false, ◌&&◌, IsTrue, List, [], ◌∷◌, length, get_or-set_other, length-set, eq-eqb}
use Rattle.std.specs.Prelude.{◌||◌, Option, Some, None, option_map, slice_get, slice_set}
use Rattle.std.specs.List.{list_any, filter}
use Rattle.std.specs.Option.{option_map_or, option_or}
use Rattle.std.proofs.lemmas.Bool.{cases_Bool, cases_eq, false≢true}
use Rattle.std.proofs.lemmas.List.Elements.{filter_agree}
use Rattle.integer_laws.proofs.Ring.{linear}
use Rattle.gas_model.specs.declared.rows.ArcRow.{ArcRow}
use Rattle.base_types.specs.declared.states.ArcState.{ArcState}
use Rattle.gas_model.specs.declared.rows.Ends.{Ends}
use Rattle.gas_model.specs.declared.rows.PartState.{PartState}
use Rattle.gas_model.specs.declared.rows.Ruling.{Ruling}
use Rattle.base_types.specs.declared.variables.Var.{Var}
use Rattle.base_types.specs.declared.variables.Var.TheVariants.{Flow, Square}
use Rattle.gas_model.specs.Rows.{Network}
use Rattle.gas_model.specs.Laws.{form_of}
use Rattle.gas_model.specs.Boxes.{BoxFits, ends_of, is_empty, tightened}
use Rattle.gas_model.specs.Choices.{fixed_state, picks_allow, states_of, only, named_state}
use Rattle.gas_model.specs.Rulings.{leaves, all_leave, pick_in, rulings_at}
use Rattle.gas_model.proofs.RuledWords.{words_leave}
use Rattle.box_ends.specs.Empty.{LeavesAll}
use Rattle.tree_cert.specs.declared.line.Head.{Head}
use Rattle.tree_cert.specs.declared.line.Head.TheVariants.{Take, State, Half}
use Rattle.tree_cert.specs.declared.line.Rule.{Rule}
use Rattle.tree_cert.specs.declared.line.Rule.TheVariants.{Balance}
use Rattle.tree_cert.specs.declared.line.Closing.TheVariants.{Cut, At}
use Rattle.tree_rules.specs.ArcRules.{arc_closing}
use Rattle.tree_rules.specs.Branches.{headed, with_pick, with_state}
use Rattle.tree_rules.specs.Rules.{PartBox, arc_ends, arc_var, form_step, fixed_form, row_step, law_step, rule_holds, row_closing, closing_at}
use Rattle.tight_steps.specs.declared.law.Law.{Law}
use Rattle.tight_steps.specs.declared.law.Law.TheVariants.{AtNode, AtArc}
use Rattle.tight_steps.specs.Moves.{is_law, is_of_law, IsQuiet}
use Rattle.tight_steps.specs.Mentions.{mentions}
use Rattle.tight_steps.proofs.ArcMoves.{step_parts, step_from, rule_at_arc, place_is}
use Rattle.tight_steps.proofs.OtherArcs.{closing_at_arc}
use Rattle.tight_steps.proofs.OtherNodes.{node_is}
use Rattle.tight_steps.proofs.Quiet.{other_laws_stay_quiet}
use Rattle.link_queue.specs.Queue.{holds}
use Rattle.stable_sweep.specs.Children.{ComesBy, LeavesBy, NoneCutsBy}
use Rattle.stable_sweep.specs.Components.{NoneCuts}
use Rattle.stable_sweep.specs.Settling.{IsStable, AreSettled}
use Rattle.stable_sweep.specs.Waiting.{slot, IsWoken, speaks_of}
use Rattle.stable_sweep.proofs.Sweeps.{var_of, filled_more}

-- ---- a law that reads the same of both part states
abbrev with_part : PartBox → PartState → PartBox
with_part b part = record { scale = b.scale; part = part; bounds = b.bounds }

-- what the law of a node or an arc says is the same under both part states
record SaysTheSame (p : Network) (b : PartBox) (part : PartState) (law : Law) : Type 0 where
  rule : (rule : Rule) (place : ℕ) (v : Var) (low : Bool) (C : ℤ) → IsTrue (is_of_law law rule place) → rule_holds p (with_part b part) rule place v low C ≡ rule_holds p b rule place v low C
  closing : (rule : Rule) (place : ℕ) → IsTrue (is_of_law law rule place) → closing_at p (with_part b part) rule place ≡ closing_at p b rule place

stays_quiet : (p : Network) (b : PartBox) (part : PartState) (law : Law) → SaysTheSame p b part law → IsQuiet p b law → IsQuiet p (with_part b part) law
stays_quiet p b part law same q = record {
  open_still = λ rule place l t. q.open_still rule place l (sym (same.closing rule place l) ∙ t);
  no_move = λ s l m.
      let parts = step_parts p (with_part b part) s m.holds in
      q.no_move s l
      (record {
        holds = step_from p b s (record { var = parts.var; within = parts.within; sign = parts.sign; rule = sym (same.rule s.rule s.place s.var s.low s.value l) ∙ parts.rule });
        shrinks = m.shrinks;
      });
}

-- the law of a node knows no part state
balance_same : (p : Network) (b : PartBox) (part : PartState) (n : ℕ) (v : Var) (low : Bool) (C : ℤ) → rule_holds p (with_part b part) Balance n v low C ≡ rule_holds p b Balance n v low C
balance_same p b part n (Flow a) low C = refl
balance_same p b part n (Square m) low C = refl

node_same : (p : Network) (b : PartBox) (part : PartState) (n : ℕ) → SaysTheSame p b part (AtNode n)
node_same p b part n = record {
  rule = λ rule place v low C l.
      subst (λ (r : Rule). rule_holds p (with_part b part) r place v low C ≡ rule_holds p b r place v low C) (sym (node_is n rule place l).0) (balance_same p b part place v low C);
  closing = λ rule place l. subst (λ (r : Rule). closing_at p (with_part b part) r place ≡ closing_at p b r place) (sym (node_is n rule place l).0) refl;
}

-- two tests that agree where there is something to test
map_same : {X : Type 0} (o : Option X) (f g : X → Bool) → ((x : X) → o ≡ Some x → f x ≡ g x) → option_map_or f o false ≡ option_map_or g o false
map_same None f g h = refl
map_same (Some x) f g h = h x refl

-- the law of an arc whose state stays the same
abbrev SameState : Network → PartState → PartState → ℕ → Type 0
SameState p part new a = (row : ArcRow) → fixed_state p new a row ≡ fixed_state p part a row

form_same : (p : Network) (part new : PartState) (a : ℕ) (row : ArcRow) → SameState p part new a → fixed_form p new a row ≡ fixed_form p part a row
form_same p part new a row h = ap (λ (o : Option ArcState). option_map (form_of row.kind) o) (h row)

arc_same : (p : Network) (b : PartBox) (part : PartState) (a : ℕ) → SameState p b.part part a → SaysTheSame p b part (AtArc a)
arc_same p b part a h = record {
  rule = λ rule place v low C l.
      let at = place_is a rule place l in
      rule_at_arc p (with_part b part) rule place v low C at.0
      ∙ subst (λ (n : ℕ). law_step p (with_part b part) rule n v low C ≡ law_step p b rule n v low C) (sym at.1)
      (map_same (slice_get p.arcs a) (row_step p (with_part b part) rule a v low C) (row_step p b rule a v low C) (λ row e. ap (λ o. option_map_or (form_step rule b.scale (arc_ends b.bounds a row) (arc_var a row v) low C) o false) (form_same p b.part part a row h)))
      ∙ sym (rule_at_arc p b rule place v low C at.0);
  closing = λ rule place l.
      let at = place_is a rule place l in
      closing_at_arc p (with_part b part) rule place at.0
      ∙ subst (λ (n : ℕ). option_map_or (row_closing p (with_part b part) rule n) (slice_get p.arcs n) false ≡ option_map_or (row_closing p b rule n) (slice_get p.arcs n) false) (sym at.1)
      (map_same (slice_get p.arcs a) (row_closing p (with_part b part) rule a) (row_closing p b rule a) (λ row e. ap (λ o. option_map_or (λ form. arc_closing rule form b.scale (arc_ends b.bounds a row)) o false) (form_same p b.part part a row h)))
      ∙ sym (closing_at_arc p b rule place at.0);
}

-- ---- a state that is named for another arc
other_state : (p : Network) (part : PartState) (a i : ℕ) (state : ArcState) → i ≢ a → SameState p part (with_state part a state) i
other_state p part a i state n row =
    ap (λ (named : Option ArcState). option_or (only (states_of row.kind)) (option_or named (only (filter (picks_allow p.groups part.picks i) (states_of row.kind))))) (get_or-set_other part.states a i (Some state) None n)

-- ---- a pick of a group that doesn't speak of the arc
unsaid : (k j : ℕ) (picks : List (Option ℕ)) (state : ArcState) (rulings : List Ruling) → list_any (λ r. r.group == k) rulings ≡ false → all_leave (pick_in (slice_set picks k (Some j))) state rulings ≡ all_leave (pick_in picks) state rulings
unsaid k j picks state [] h = refl
unsaid k j picks state (r ∷ rulings) h =
    let parts = or_parts (r.group == k) (list_any (λ r. r.group == k) rulings) h in
    ap (λ (o : Option ℕ). leaves o state r && all_leave (pick_in (slice_set picks k (Some j))) state rulings) (get_or-set_other picks k r.group (Some j) None (apart r.group k parts.0))
    ∙ ap (λ (b : Bool). leaves (pick_in picks r.group) state r && b) (unsaid k j picks state rulings parts.1)
  where
    or_parts : (a b : Bool) → (a || b) ≡ false → (a ≡ false) × (b ≡ false)
    or_parts true b h = absurd (false≢true (sym h))
    or_parts false b h = (refl, h)

    apart : (x y : ℕ) → (x == y) ≡ false → x ≢ y
    apart x y h e = false≢true (sym h ∙ eq-eqb x y e)

other_pick : (p : Network) (part : PartState) (k j i : ℕ) → speaks_of p k i ≡ false → SameState p part (with_pick part k j) i
other_pick p part k j i h row =
    ap (λ (left : List ArcState). option_or (only (states_of row.kind)) (option_or (named_state part.states i) (only left)))
    (filter_agree (picks_allow p.groups (slice_set part.picks k (Some j)) i) (picks_allow p.groups part.picks i)
    (λ state. words_leave p.groups (slice_set part.picks k (Some j)) i state ∙ unsaid k j part.picks state (rulings_at p.groups i) h ∙ sym (words_leave p.groups part.picks i state)) (states_of row.kind))

-- ---- the laws of a stable box
law_quiet : (p : Network) (b : PartBox) (law : Law) → IsStable p b → IsQuiet p b law
law_quiet p b law s = record {
  open_still = λ rule place l t. s.open_still (At rule place) tt t;
  no_move = λ m l i. s.no_move m i;
}

-- each law of a child waits or is quiet
child_settled : (p : Network) (parent : PartBox) (h : Head) (held : List ℕ) (law : Law) → IsStable p parent → is_law (length p.nodes) (length p.arcs) law → IsWoken p (headed parent h).part (Some h) held
    → (holds (slot (length p.nodes) law) held ≡ true) ⊎ IsQuiet p (headed parent h) law
child_settled p parent (Take k j) held (AtNode n) s i w = inr (stays_quiet p parent (with_pick parent.part k j) (AtNode n) (node_same p parent (with_pick parent.part k j) n) (law_quiet p parent (AtNode n) s))
child_settled p parent (Take k j) held (AtArc a) s i w = elim (cases_Bool (speaks_of p k a)) [
  | inl y ↦ inl (w a i y)
  | inr n ↦ inr (stays_quiet p parent (with_pick parent.part k j) (AtArc a) (arc_same p parent (with_pick parent.part k j) a (other_pick p parent.part k j a n)) (law_quiet p parent (AtArc a) s))
]
child_settled p parent (State b state) held (AtNode n) s i w = inr (stays_quiet p parent (with_state parent.part b state) (AtNode n) (node_same p parent (with_state parent.part b state) n) (law_quiet p parent (AtNode n) s))
child_settled p parent (State b state) held (AtArc a) s i w = elim (cases_eq a b) [
  | inl e ↦ inl (subst (λ (x : ℕ). holds (length p.nodes + x) held ≡ true) (sym e) w)
  | inr n ↦ inr (stays_quiet p parent (with_state parent.part b state) (AtArc a) (arc_same p parent (with_state parent.part b state) a (other_state p parent.part b a state n)) (law_quiet p parent (AtArc a) s))
]
child_settled p parent (Half v low C) held law s i w = elim (cases_Bool (mentions p parent.part law v)) [
  | inl y ↦ inl ((w.each law i y).is (slot_below law i))
  | inr n ↦ inr (other_laws_stay_quiet p parent law v low C n (law_quiet p parent law s))
]
  where
    slot_below : (law : Law) → is_law (length p.nodes) (length p.arcs) law → slot (length p.nodes) law ≡ length p.nodes + length p.arcs → ⊥
    slot_below (AtNode n) i e = absurd (omega (arith, i, e))
    slot_below (AtArc a) i e = absurd (omega (arith, i, e))

pub settled_first : (p : Network) (b : PartBox) (h : Option Head) (held : List ℕ) → ComesBy p b h → IsWoken p b.part h held → AreSettled p b held
settled_first p b None held c w = record { each = each }
  where
    each : (law : Law) → is_law (length p.nodes) (length p.arcs) law → (holds (slot (length p.nodes) law) held ≡ true) ⊎ IsQuiet p b law
    each (AtNode n) i = inl (w n (omega (arith, i)))
    each (AtArc a) i = inl (w (length p.nodes + a) (omega (arith, i)))
settled_first p b (Some h) held c w = record {
  each = λ law i. subst (λ (x : PartBox). (holds (slot (length p.nodes) law) held ≡ true) ⊎ IsQuiet p x law) (sym c.child)
      (child_settled p c.parent h held law c.stable i (subst (λ (x : PartBox). IsWoken p x.part (Some h) held) c.child w));
}

-- ---- variables and components
child_leaves : (p : Network) (parent : PartBox) (h : Head) → BoxFits p parent.bounds → IsStable p parent → LeavesBy (headed parent h).bounds (Some h) → LeavesAll (headed parent h).bounds
child_leaves p parent (Take k j) f s l = s.filled
child_leaves p parent (State a state) f s l = s.filled
child_leaves p parent (Half v low C) f s l = filled_more parent.bounds v low C (s.filled) (not_empty (ends_of (tightened parent.bounds v low C) v) l)
  where
    not_empty : (x : Ends) → is_empty x ≡ false → x.lo ≤ℤ x.hi
    not_empty x n = omega (arith, linear, n)

-- a child has as many ends as its parent
parent_fits : (p : Network) (parent : PartBox) (h : Head) → BoxFits p (headed parent h).bounds → BoxFits p parent.bounds
parent_fits p parent (Take k j) f = f
parent_fits p parent (State a state) f = f
parent_fits p parent (Half (Flow i) low C) f = record { flows = sym (length-set parent.bounds.flows i _) ∙ f.flows; squares = f.squares }
parent_fits p parent (Half (Square n) low C) f = record { flows = f.flows; squares = sym (length-set parent.bounds.squares n _) ∙ f.squares }

pub leaves_all : (p : Network) (b : PartBox) (h : Option Head) → BoxFits p b.bounds → ComesBy p b h → LeavesBy b.bounds h → LeavesAll b.bounds
leaves_all p b None f c l = l
leaves_all p b (Some h) f c l =
    subst (λ (x : PartBox). LeavesAll x.bounds) (sym c.child)
    (child_leaves p c.parent h (parent_fits p c.parent h (subst (λ (x : PartBox). BoxFits p x.bounds) c.child f)) c.stable (subst (λ (x : PartBox). LeavesBy x.bounds (Some h)) c.child l))

child_cuts : (p : Network) (parent : PartBox) (h : Head) → IsStable p parent → NoneCutsBy p (headed parent h).part (Some h) → NoneCuts p (headed parent h).part
child_cuts p parent (Take k j) s n = n
child_cuts p parent (State a state) s n = n
child_cuts p parent (Half v low C) s n = record { none = λ root ns is t. s.open_still (Cut ns) (root, is) t }

pub none_cuts : (p : Network) (b : PartBox) (h : Option Head) → ComesBy p b h → NoneCutsBy p b.part h → NoneCuts p b.part
none_cuts p b None c n = n
none_cuts p b (Some h) c n = subst (λ (x : PartBox). NoneCuts p x.part) (sym c.child) (child_cuts p c.parent h c.stable (subst (λ (x : PartBox). NoneCutsBy p x.part (Some h)) c.child n))
