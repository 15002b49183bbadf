-- The heads that are expected, one after the other.
use Rattle.std.proofs.Common.{filter, ne_eqb, subst, is_some, ◌==◌, ◌≡◌, ◌≢◌, ℕ, suc, ◌+◌, ◌-◌, ◌<◌, ◌≤◌, refl, sym, ap, ◌∙◌, arith, List, [], ◌∷◌, map, length, Bool, true, false, Option, Some, None, IsTrue, cond}
use Rattle.std.specs.List.{range_with_len}
use Rattle.base_types.specs.declared.states.ArcState.{ArcState}
use Rattle.tree_cert.specs.declared.line.Head.{Head}
use Rattle.tree_cert.specs.declared.line.Head.TheVariants.{Take, State}
use Rattle.std.specs.Prelude.{slice_get, option_map, option_and_then}
use Rattle.std.specs.List.{list_all}
use Rattle.std.proofs.lemmas.Option.{slice_get_within}
use Rattle.gas_model.specs.declared.rows.ArcKind.{ArcKind}
use Rattle.gas_model.specs.declared.rows.ArcKind.TheVariants as kinds
use Rattle.gas_model.specs.declared.rows.ArcRow.{ArcRow}
use Rattle.gas_model.specs.declared.rows.Group.{Group}
use Rattle.gas_model.specs.declared.rows.PartState.{PartState}
use Rattle.gas_model.specs.Rows.{Network}
use Rattle.gas_model.specs.Choices.{states_of, has_state, picks_allow, allowed_states}
use Rattle.gas_model.specs.Rulings.{is_free, pick_in}
use Rattle.gas_model.specs.Within.{IsWithin as Within, is_group_within}
use Rattle.tree_cert.specs.Tree.{ByGroup, ByArc}
use Rattle.tree_check.specs.declared.frames.Expected.TheVariants as expected
use Rattle.tree_check.specs.Undo.{wait_at, AreDecisionsOf, AreStatesOf}
use Rattle.std.proofs.lemmas.Bool.{and_parts, and_from}
use Rattle.tree_rules.specs.Rules.{PartBox}
use Rattle.tree_rules.specs.Branches.{Heads, headed, after_head, same_head, is_over, after_branch, decision_heads, state_heads}
use Rattle.tree_rules.proofs.SameHeads.{heads_are_told_apart}

not_true : (b : Bool) → (b ≡ true → ⊥) → b ≡ false
not_true true h = absurd (h refl)
not_true false h = refl

pub head_fits : (b : PartBox) (h e : Head) (es : List Head) → h ≡ e → after_head (Heads b (e ∷ es)) h ≡ Some (headed b h, Heads b es)
head_fits b h e es same =
    ap (λ (t : Bool). cond t (Some (headed b e, Heads b es)) None) ((heads_are_told_apart h e).1 same) ∙ ap (λ (x : Head). Some (headed b x, Heads b es)) (sym same)

pub head_differs : (b : PartBox) (h e : Head) (es : List Head) → h ≢ e → after_head (Heads b (e ∷ es)) h ≡ None
head_differs b h e es other =
    ap (λ (t : Bool). cond t (Some (headed b e, Heads b es)) None) (not_true (same_head h e) (λ t. other ((heads_are_told_apart h e).0 t)))

-- the decisions from this one on
pub decisions_from : (k next count : ℕ) → next < count → map (Take k) (range_with_len next (count - next)) ≡ Take k next ∷ map (Take k) (range_with_len (next + 1) (count - (next + 1)))
decisions_from k next count l =
    let e : count - next ≡ suc (count - (next + 1)) = omega arith in
    ap (λ (n : ℕ). map (Take k) (range_with_len next n)) e

pub no_decisions : (k next count : ℕ) → count ≤ next → map (Take k) (range_with_len next (count - next)) ≡ []
no_decisions k next count l =
    let e : count - next ≡ 0 = omega arith in
    ap (λ (n : ℕ). map (Take k) (range_with_len next n)) e

pub over_states : (a : ℕ) (left : List ArcState) (b : PartBox) → (length left == 0) ≡ is_over (Heads b (map (State a) left))
over_states a [] b = refl
over_states a (s ∷ left) b = ne_eqb (suc (length left)) 0 (λ e. absurd (omega arith))

pub after_decision : (b : PartBox) (k next count : ℕ) (h : Head) → next < count → h ≡ Take k next → after_head (wait_at b (expected.Decisions k next count)) h ≡ Some (headed b h, wait_at b (expected.Decisions k (next + 1) count))
after_decision b k next count h l same =
    ap (λ (es : List Head). after_head (Heads b es) h) (decisions_from k next count l)
    ∙ head_fits b h (Take k next) (map (Take k) (range_with_len (next + 1) (count - (next + 1)))) same

-- ---- the branches that are allowed
by_pick : (b : PartBox) (k : ℕ) (t : Bool) (o : Option Group) → o ≡ None → None ≡ option_map (Heads b) (cond t None (option_map (decision_heads k) o))
by_pick b k true o e = refl
by_pick b k false o e = rw e refl

pub no_group : (p : Network) (b : PartBox) (k : ℕ) → slice_get p.groups k ≡ None → None ≡ after_branch p b (ByGroup k)
no_group p b k e = by_pick b k (is_some (pick_in b.part.picks k)) (slice_get p.groups k) e

pub picked_group : (p : Network) (b : PartBox) (k : ℕ) → is_some (pick_in b.part.picks k) ≡ true → None ≡ after_branch p b (ByGroup k)
picked_group p b k e = ap (λ (t : Bool). option_map (Heads b) (cond t None (option_map (decision_heads k) (slice_get p.groups k)))) (sym e)

pub free_group : (p : Network) (b : PartBox) (k count : ℕ) (g : Group) → slice_get p.groups k ≡ Some g → is_some (pick_in b.part.picks k) ≡ false → count ≡ length g.decisions → Some (wait_at b (expected.Decisions k 0 count)) ≡ after_branch p b (ByGroup k)
free_group p b k count g e f n =
    let same : count - 0 ≡ length g.decisions = omega (arith, n) in
    ap (λ (m : ℕ). Some (Heads b (map (Take k) (range_with_len 0 m)))) same
    ∙ ap (λ (o : Option Group). option_map (Heads b) (option_map (decision_heads k) o)) (sym e)
    ∙ ap (λ (t : Bool). option_map (Heads b) (cond t None (option_map (decision_heads k) (slice_get p.groups k)))) (sym f)

pub group_decisions : (p : Network) (k : ℕ) (g : Group) → slice_get p.groups k ≡ Some g → AreDecisionsOf p k 0 (length g.decisions)
group_decisions p k g e = record {
  group = slice_get_within p.groups k g e;
  within = λ h s.
      let same : Some g ≡ Some h = sym e ∙ s in
      let is : g ≡ h = cc in
      let sizes = ap (λ (x : Group). length x.decisions) is in
      omega (arith, sizes);
}

pub few_decisions : (p : Network) (k : ℕ) (g : Group) → Within p → slice_get p.groups k ≡ Some g → length g.decisions ≤ 1024
few_decisions p k g w e = many g (w.groups k g e)
  where
    many : (g : Group) → IsTrue (is_group_within p.arcs g) → length g.decisions ≤ 1024
    many g t = grind arith

-- ---- the states of an arc
state_filter : (test : ArcState → Bool) (kind : ArcKind) (states : List ArcState) → IsTrue (list_all (has_state kind) states) → IsTrue (list_all (has_state kind) (filter test states))
state_filter test kind [] t = t
state_filter test kind (s ∷ states) t = by (test s) (state_filter test kind states (and_parts (has_state kind s) (list_all (has_state kind) states) t).1)
  where
    by : (b : Bool) → IsTrue (list_all (has_state kind) (filter test states)) → IsTrue (list_all (has_state kind) (cond b (s ∷ filter test states) (filter test states)))
    by true rest = and_from (has_state kind s) (list_all (has_state kind) (filter test states)) (and_parts (has_state kind s) (list_all (has_state kind) states) t).0 rest
    by false rest = rest

own_states : (kind : ArcKind) → IsTrue (list_all (has_state kind) (states_of kind))
own_states (kinds.Pipe law) = refl
own_states kinds.Short = refl
own_states (kinds.Resist law) = refl
own_states (kinds.Loss low high) = refl
own_states kinds.Valve = refl
own_states (kinds.Control a b x y) = refl
own_states (kinds.Station a b x y r) = refl

pub arc_states : (p : Network) (part : PartState) (a : ℕ) (row : ArcRow) (left : List ArcState) → slice_get p.arcs a ≡ Some row → left ≡ allowed_states p part a row → AreStatesOf p a left
arc_states p part a row left e is = record {
  arc = slice_get_within p.arcs a row e;
  kinds = λ r s.
      let same : Some row ≡ Some r = sym e ∙ s in
      let here : row ≡ r = cc in
      subst (λ (x : ArcRow). IsTrue (list_all (has_state x.kind) left)) here
      (subst (λ (l : List ArcState). IsTrue (list_all (has_state row.kind) l)) (sym is)
      (state_filter (picks_allow p.groups part.picks a) row.kind (states_of row.kind) (own_states row.kind)));
}

pub free_arc : (p : Network) (b : PartBox) (a : ℕ) (row : ArcRow) (left : List ArcState) → slice_get p.arcs a ≡ Some row → is_free p b.part a row ≡ true → left ≡ allowed_states p b.part a row → Some (Heads b (map (State a) left)) ≡ after_branch p b (ByArc a)
free_arc p b a row left e f is =
    ap (λ (l : List ArcState). Some (Heads b (map (State a) l))) is
    ∙ ap (λ (t : Bool). option_map (Heads b) (cond t (Some (map (State a) (allowed_states p b.part a row))) None)) (sym f)
    ∙ ap (λ (o : Option ArcRow). option_map (Heads b) (option_and_then (state_heads p b.part a) o)) (sym e)

pub fixed_arc : (p : Network) (b : PartBox) (a : ℕ) (row : ArcRow) → slice_get p.arcs a ≡ Some row → is_free p b.part a row ≡ false → None ≡ after_branch p b (ByArc a)
fixed_arc p b a row e f =
    ap (λ (t : Bool). option_map (Heads b) (cond t (Some (map (State a) (allowed_states p b.part a row))) None)) (sym f)
    ∙ ap (λ (o : Option ArcRow). option_map (Heads b) (option_and_then (state_heads p b.part a) o)) (sym e)

pub no_arc : (p : Network) (b : PartBox) (a : ℕ) → slice_get p.arcs a ≡ None → None ≡ after_branch p b (ByArc a)
no_arc p b a e = ap (λ (o : Option ArcRow). option_map (Heads b) (option_and_then (state_heads p b.part a) o)) (sym e)
