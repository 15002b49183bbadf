-- The laws that are put back.
use Rattle.std.proofs.Common.{◌≡◌, ℕ, ◌+◌, ◌<◌, ◌≤◌, ◌==◌, min, max, refl, sym, ap, ◌∙◌, subst, inl, inr, arith, Bool, true, false, List, length, get_or, Option, Some, None, cond, eq-eqb, eqb-true}
use Rattle.std.specs.Prelude.{◌||◌, slice_get}
use Rattle.std.specs.Option.{option_map_or}
use Rattle.std.proofs.lemmas.Bool.{cases_eq, cases_lt, false≢true, or_cases}
use Rattle.std.proofs.lemmas.Option.{slice_get_within, get_or_from_slice_get}
use Rattle.gas_model.specs.declared.rows.ArcRow.{ArcRow}
use Rattle.gas_model.specs.declared.rows.PartState.{PartState}
use Rattle.base_types.specs.declared.variables.Var.TheVariants.{Flow, Square}
use Rattle.gas_model.specs.Rows.{Network}
use Rattle.gas_model.specs.Points.{touches, arcs_at}
use Rattle.gas_model.specs.declared.law_forms.LawForm.{LawForm}
use Rattle.topo.specs.Graphs.{graph_of, no_arc, is_at}
use Rattle.topo.proofs.PassingNumbers.{those_are, arcs_at-those}
use Rattle.tree_rules.specs.declared.arc_vars.ArcVar.TheVariants.{OfFlow, OfFrom, OfTo}
use Rattle.tree_rules.specs.Rules.{arc_var, fixed_form}
use Rattle.tree_rules.proofs.StepSound.{some_is}
use Rattle.tree_rules.proofs.Loosening.{some_from}
use Rattle.tight_steps.specs.declared.law.Law.{Law}
use Rattle.tight_steps.specs.declared.law.Law.TheVariants.{AtNode, AtArc}
use Rattle.tight_steps.specs.Moves.{is_law}
use Rattle.tight_steps.specs.Mentions.{form_mentions, mentions}
use Rattle.tight_steps.proofs.OtherArcs.{squares_alike}
use Rattle.stable_sweep.specs.Waiting.{slot, Waits, KeepsHeld, arc_mentions, row_mentions, PutsArc, PutsBack}

pub waits_kept : (current : ℕ) (old new : List ℕ) (i : ℕ) → KeepsHeld old new → Waits current old i → Waits current new i
waits_kept current old new i k w = record { is = λ n. k i (w.is n) }

-- both of two numbers, by the lesser and the greater
first_of : (P : ℕ → Type 0) (x y : ℕ) → P (min x y) → P (max x y) → P x
first_of P x y p q = elim (cases_lt x y) [ inl h ↦ subst P (let e : min x y ≡ x = omega (arith, h) in e) p | inr h ↦ subst P (let e : max x y ≡ x = omega (arith, h) in e) q ]

second_of : (P : ℕ → Type 0) (x y : ℕ) → P (min x y) → P (max x y) → P y
second_of P x y p q = elim (cases_lt x y) [ inl h ↦ subst P (let e : max x y ≡ y = omega (arith, h) in e) q | inr h ↦ subst P (let e : min x y ≡ y = omega (arith, h) in e) p ]

-- an arc that mentions its flow
flow_var : (t : Bool) (form : LawForm) → option_map_or (form_mentions form) (cond t (Some OfFlow) None) false ≡ true → (t ≡ true) × (form_mentions form OfFlow ≡ true)
flow_var true form h = (refl, h)
flow_var false form h = absurd (false≢true h)

square_var : (t s : Bool) (form : LawForm) → option_map_or (form_mentions form) (cond t (Some OfFrom) (cond s (Some OfTo) None)) false ≡ true → ((t || s) ≡ true) × (form_mentions form OfFrom ≡ true)
square_var true s form h = (refl, h)
square_var false true form h = (refl, squares_alike form ∙ h)
square_var false false form h = absurd (false≢true h)

pub record MentionsFlow (p : Network) (part : PartState) (a i : ℕ) : Type 0 where
  pub same : i ≡ a
  pub says : arc_mentions p part a true ≡ true

mentions_flow : (p : Network) (part : PartState) (a i : ℕ) → mentions p part (AtArc a) (Flow i) ≡ true → MentionsFlow p part a i
mentions_flow p part a i h =
    let r = some_is (slice_get p.arcs a) (λ row. option_map_or (λ form. option_map_or (form_mentions form) (arc_var a row (Flow i)) false) (fixed_form p part a row) false) h in
    let f = some_is (fixed_form p part a r.0) (λ form. option_map_or (form_mentions form) (arc_var a r.0 (Flow i)) false) r.2 in
    let v = flow_var (i == a) f.0 f.2 in
    record {
      same = eqb-true i a v.0;
      says = some_from (slice_get p.arcs a) (row_mentions p part a true) r.0 r.1 (some_from (fixed_form p part a r.0) (λ form. form_mentions form OfFlow) f.0 f.1 v.1);
    }

pub record MentionsSquare (p : Network) (part : PartState) (a n : ℕ) : Type 0 where
  pub row : ArcRow
  pub is : slice_get p.arcs a ≡ Some row
  pub touches : touches n row ≡ true
  pub says : arc_mentions p part a false ≡ true

either_end : (n f t : ℕ) → ((n == f) || (n == t)) ≡ true → ((f == n) || (t == n)) ≡ true
either_end n f t h = elim (or_cases (n == f) (n == t) h) [
  | inl e ↦ let s : f ≡ n = sym (eqb-true n f e) in ap (λ (b : Bool). b || (t == n)) (ap (λ (x : ℕ). x == n) s ∙ same n)
  | inr e ↦ let s : t ≡ n = sym (eqb-true n t e) in or_right (f == n) (t == n) (ap (λ (x : ℕ). x == n) s ∙ same n)
]
  where
    same : (x : ℕ) → (x == x) ≡ true
    same x = eq-eqb x x refl

    or_right : (a b : Bool) → b ≡ true → (a || b) ≡ true
    or_right true b h = refl
    or_right false b h = h

mentions_square : (p : Network) (part : PartState) (a n : ℕ) → mentions p part (AtArc a) (Square n) ≡ true → MentionsSquare p part a n
mentions_square p part a n h =
    let r = some_is (slice_get p.arcs a) (λ row. option_map_or (λ form. option_map_or (form_mentions form) (arc_var a row (Square n)) false) (fixed_form p part a row) false) h in
    let f = some_is (fixed_form p part a r.0) (λ form. option_map_or (form_mentions form) (arc_var a r.0 (Square n)) false) r.2 in
    let v = square_var (n == r.0.from) (n == r.0.to) f.0 f.2 in
    record {
      row = r.0;
      is = r.1;
      touches = either_end n r.0.from r.0.to v.0;
      says = some_from (slice_get p.arcs a) (row_mentions p part a false) r.0 r.1 (some_from (fixed_form p part a r.0) (λ form. form_mentions form OfFrom) f.0 f.1 v.1);
    }

-- the laws of both nodes, and the arc's
pub puts_flow : (p : Network) (part : PartState) (a : ℕ) (row : ArcRow) (current : ℕ) (held : List ℕ) → slice_get p.arcs a ≡ Some row → Waits current held (min row.from row.to) → Waits current held (max row.from row.to) → PutsArc p part true current a held → PutsBack p part (Flow a) current held
puts_flow p part a row current held e x y z = record { each = each }
  where
    each : (law : Law) → is_law (length p.nodes) (length p.arcs) law → mentions p part law (Flow a) ≡ true → Waits current held (slot (length p.nodes) law)
    each (AtNode n) i m =
        elim (or_cases (row.from == n) (row.to == n) (sym (ap (λ (o : Option ArcRow). option_map_or (touches n) o false) e) ∙ m)) [
          | inl f ↦ subst (Waits current held) (eqb-true row.from n f) (first_of (Waits current held) row.from row.to x y)
          | inr t ↦ subst (Waits current held) (eqb-true row.to n t) (second_of (Waits current held) row.from row.to x y)
        ]
    each (AtArc j) i m =
        let says = mentions_flow p part j a m in
        subst (λ (k : ℕ). Waits current held (length p.nodes + k)) says.same (z (ap (λ (k : ℕ). arc_mentions p part k true) says.same ∙ says.says))

-- the first k of the arcs at a node
pub record PutsUpTo (p : Network) (part : PartState) (current : ℕ) (at : List ℕ) (k : ℕ) (held : List ℕ) : Type 0 where
  pub each : (i : ℕ) → i < k → PutsArc p part false current (get_or at i 0) held

pub puts_more : (p : Network) (part : PartState) (current : ℕ) (at : List ℕ) (k : ℕ) (old new : List ℕ) → PutsUpTo p part current at k old → KeepsHeld old new → PutsArc p part false current (get_or at k 0) new → PutsUpTo p part current at (k + 1) new
puts_more p part current at k old new u kept here = record {
  each = λ i h. elim (cases_eq i k) [
    | inl e ↦ subst (λ (j : ℕ). PutsArc p part false current (get_or at j 0) new) (sym e) here
    | inr d ↦ λ m. waits_kept current old new (length p.nodes + get_or at i 0) kept (u.each i (omega arith) m)
  ];
}

-- an arc at a node is among those listed there
listed : (p : Network) (n a : ℕ) (at : List ℕ) (row : ArcRow) → at ≡ arcs_at p.arcs n → slice_get p.arcs a ≡ Some row → touches n row ≡ true → (i : ℕ) × (i < length at) × (get_or at i 0 ≡ a)
listed p n a at row e is t =
    let within = slice_get_within p.arcs a row is in
    let own : get_or p.arcs a no_arc ≡ row = get_or_from_slice_get p.arcs a row no_arc is in
    let passes : is_at (graph_of p.arcs) n a ≡ true = ap (touches n) own ∙ t in
    subst (λ (xs : List ℕ). (i : ℕ) × (i < length xs) × (get_or xs i 0 ≡ a)) (sym (e ∙ arcs_at-those p.arcs n)) ((those_are (is_at (graph_of p.arcs) n) (length p.arcs)).complete a within passes)

pub puts_square : (p : Network) (part : PartState) (n current : ℕ) (at : List ℕ) (k : ℕ) (held : List ℕ) → at ≡ arcs_at p.arcs n → PutsUpTo p part current at k held → length at ≤ k → PutsBack p part (Square n) current held
puts_square p part n current at k held e u h = record { each = each }
  where
    each : (law : Law) → is_law (length p.nodes) (length p.arcs) law → mentions p part law (Square n) ≡ true → Waits current held (slot (length p.nodes) law)
    each (AtNode m) i t = absurd (false≢true t)
    each (AtArc a) i t =
        let says = mentions_square p part a n t in
        let found = listed p n a at says.row e says.is says.touches in
        let lt = found.1 in
        subst (λ (j : ℕ). Waits current held (length p.nodes + j)) found.2 (u.each found.0 (omega (arith, h, lt)) (ap (λ (j : ℕ). arc_mentions p part j false) found.2 ∙ says.says))

-- ---- what an arc mentions, as the code finds it
