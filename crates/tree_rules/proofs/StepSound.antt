-- A point of a box stays in it after an allowed step, and is in no box in which a closing holds.
use Rattle.std.proofs.Common.{◌≡◌, ◌⊎◌, ℕ, ◌<◌, inl, inr, refl, sym, ap, ◌∙◌, subst, arith, ℤ, pos, ◌≤ℤ◌, ◌<ℤ◌, Bool, true, false, cond, ◌&&◌, ◌||◌, not, ◌==◌, nat_lt, int_le, IsTrue, List, length, slice_get, slice_index_or, slice_set, Option, Some, None, option_map, get_or-set_same, get_or-set_other, length-set, zero-add}
use Rattle.std.specs.Option.{option_map_or}
use Rattle.std.proofs.lemmas.Bool.{cases_eq, and_parts}
use Rattle.std.proofs.lemmas.Bool.Decides.{nat_tests}
use Rattle.std.proofs.lemmas.Option.{slice_get_within, get_or_from_slice_get}
use Rattle.integer_laws.proofs.Ring.{linear, mul_lt_left}
use Rattle.gas_model.specs.declared.rows.ArcKind.{ArcKind}
use Rattle.gas_model.specs.declared.rows.ArcKind.TheVariants.{Pipe, Short, Resist, Loss, Valve, Control, Station}
use Rattle.gas_model.specs.declared.rows.ArcRow.{ArcRow}
use Rattle.base_types.specs.declared.states.ArcState.{ArcState}
use Rattle.base_types.specs.declared.states.ArcState.TheVariants.{Opened, Shut, Active, Bypass}
use Rattle.gas_model.specs.declared.rows.Drag.{Drag}
use Rattle.gas_model.specs.declared.rows.Ends.{Ends}
use Rattle.base_types.specs.declared.variables.Var.{Var}
use Rattle.base_types.specs.declared.variables.Var.TheVariants.{Flow, Square}
use Rattle.base_types.specs.Numbers.{is_drag_part, is_ratio_part, is_flow}
use Rattle.gas_model.specs.Limits.{is_drag_within, is_kind_within, are_station_pressures, is_ratio_within}
use Rattle.base_types.specs.Ids.{is_id}
use Rattle.gas_model.specs.Rows.{Network}
use Rattle.gas_model.specs.declared.law_forms.LawForm.{LawForm}
use Rattle.gas_model.specs.Laws.{form_of, meets_form}
use Rattle.gas_model.specs.Points.{Point, state_at, meets_arc}
use Rattle.gas_model.specs.Choices.{fixed_state}
use Rattle.gas_model.proofs.BoxFacts.{in_box, still_fits}
use Rattle.gas_model.specs.Boxes.{Bounds, BoxFits, no_ends, ends_of, is_var, is_empty, with_end, with_ends, tightened, numerator, IsBetween, Contains}
use Rattle.gas_model.specs.Within.{IsWithin}
use Rattle.tree_cert.specs.declared.line.Rule.{Rule}
use Rattle.tree_cert.specs.declared.line.Rule.TheVariants.{Balance}
use Rattle.tree_cert.specs.declared.line.Step.{Step}
use Rattle.tree_cert.specs.declared.line.Closing.{Closing}
use Rattle.tree_cert.specs.declared.line.Closing.TheVariants.{Empty, Cut, At}
use Rattle.tree_rules.specs.declared.arc_vars.ArcVar.{ArcVar}
use Rattle.tree_rules.specs.declared.arc_vars.ArcVar.TheVariants.{OfFlow, OfFrom, OfTo}
use Rattle.tree_rules.specs.ArcRules.{arc_step, arc_closing}
use Rattle.tree_rules.specs.NodeRules.{leaving_step, entering_step, balance_closing, are_cut_nodes, crosses, all_arcs, is_unbalanced}
use Rattle.tree_rules.specs.Rules.{PartBox, flow_lo, flow_hi, arc_ends, arc_var, fixed_form, form_step, row_step, law_step, flow_step, node_step, balance_step, rule_holds, is_allowed, step_holds, stepped, cuts, row_closing, closing_at, closing_holds}
use Rattle.gas_model.specs.Laws.{is_shut}
use Rattle.tree_rules.specs.Theorems.{IsBoxOf, IsIn, RulesKeepPoints, StepsKeepPoints, ClosingsRefute}
use Rattle.tree_rules.proofs.UnitSound.{IsForm, IsDrag, IsRatio, value_of, eq_says}
use Rattle.tree_rules.proofs.ArcSound.{ArcWithin, Keeps, arc_step_keeps, arc_closing_none}
use Rattle.tree_rules.proofs.NodeSound.{Flows, leaving_keeps, entering_keeps, balance_closed}
use Rattle.tree_rules.proofs.CutSound.{each_arc, IsCutOff, cut_closed}
use Rattle.tree_rules.proofs.States.{fixed_is}

-- ---- the numbers of a law
drag_within : (law : Drag) → IsTrue (is_drag_within law) → IsDrag law
drag_within law h =
    let a = and_parts (is_drag_part law.lo && is_drag_part law.hi && is_drag_part law.den) (int_le law.lo law.hi) h in
    let b = and_parts (is_drag_part law.lo && is_drag_part law.hi) (is_drag_part law.den) a.0 in
    let c = and_parts (is_drag_part law.lo) (is_drag_part law.hi) b.0 in
    record {
      lo = let t = and_parts (int_le (pos 1) law.lo) (int_le law.lo (pos 274877906944)) c.0 in omega (arith, linear, t.0);
      hi = let t = and_parts (int_le (pos 1) law.hi) (int_le law.hi (pos 274877906944)) c.1 in omega (arith, linear, t.0);
      den = let t = and_parts (int_le (pos 1) law.den) (int_le law.den (pos 274877906944)) b.1 in omega (arith, linear, t.0);
    }

ratio_within : (num den : ℤ) → IsTrue (is_ratio_within num den) → IsRatio num den
ratio_within num den h =
    let a = and_parts (is_ratio_part num) (is_ratio_part den) h in
    record {
      upper = let t = and_parts (int_le (pos 1) num) (int_le num (pos 1048576)) a.0 in omega (arith, linear, t.0);
      lower = let t = and_parts (int_le (pos 1) den) (int_le den (pos 1048576)) a.1 in omega (arith, linear, t.0);
    }

form_within : (kind : ArcKind) (state : ArcState) → IsTrue (is_kind_within kind) → IsForm (form_of kind state)
form_within (Pipe law) Opened h = drag_within law h
form_within (Resist law) Opened h = drag_within law h
form_within (Station in_min out_max ratio_num ratio_den rise_max) Active h =
    ratio_within ratio_num ratio_den (and_parts (are_station_pressures in_min out_max rise_max) (is_ratio_within ratio_num ratio_den) h).1
form_within Short Opened h = tt
form_within (Loss low high) Opened h = tt
form_within Valve Opened h = tt
form_within (Control in_min out_max red_min red_max) Active h = tt
form_within kind state h = tt

pub row_form : (p : Network) (a : ℕ) (row : ArcRow) (state : ArcState) → IsWithin p → slice_get p.arcs a ≡ Some row → IsForm (form_of row.kind state)
row_form p a row state w at = form_within row.kind state (and_parts (is_id row.id && is_flow row.q_min && is_flow row.q_max) (is_kind_within row.kind) (w.arcs a row at)).1

-- ---- a box in which the ends of one variable have changed
pub kept_end : (K d n : ℤ) (low : Bool) (C : ℤ) (e : Ends) → IsBetween K d n e → Keeps K d n low C → IsBetween K d n (with_end low C e)
kept_end K d n true C e w h = record { above = h; below = w.below }
kept_end K d n false C e w h = record { above = w.above; below = h }

pub changed : (K : ℤ) (x : Point) (b : Bounds) (v : Var) (e : Ends) → Contains K b x → IsBetween K x.d (numerator x v) e → Contains K (with_ends b v e) x
changed K x b (Flow a) e w h (Flow i) k =
    let inside : i < length b.flows = grind (arith, nat_tests, length-set b.flows a e) in
    elim (cases_eq i a) [
      | inl same ↦
          let at : a < length b.flows = omega arith in
          let here : ends_of (with_ends b (Flow a) e) (Flow i) ≡ e = ap (λ (j : ℕ). slice_index_or (slice_set b.flows a e) j no_ends) same ∙ get_or-set_same b.flows a e no_ends at in
          rw here (subst (λ (j : ℕ). IsBetween K x.d (x.flow j) e) (sym same) h)
      | inr apart ↦ rw (get_or-set_other b.flows a i e no_ends apart) (w (Flow i) (let t : nat_lt i (length b.flows) ≡ true = grind (arith, nat_tests) in t))
    ]
changed K x b (Flow a) e w h (Square n) k = w (Square n) k
changed K x b (Square n) e w h (Flow i) k = w (Flow i) k
changed K x b (Square n) e w h (Square m) k =
    let inside : m < length b.squares = grind (arith, nat_tests, length-set b.squares n e) in
    elim (cases_eq m n) [
      | inl same ↦
          let at : n < length b.squares = omega arith in
          let here : ends_of (with_ends b (Square n) e) (Square m) ≡ e = ap (λ (j : ℕ). slice_index_or (slice_set b.squares n e) j no_ends) same ∙ get_or-set_same b.squares n e no_ends at in
          rw here (subst (λ (j : ℕ). IsBetween K x.d (x.square j) e) (sym same) h)
      | inr apart ↦ rw (get_or-set_other b.squares n m e no_ends apart) (w (Square m) (let t : nat_lt m (length b.squares) ≡ true = grind (arith, nat_tests) in t))
    ]

-- ---- the variables of a problem are those of its box
flow_at : (p : Network) (K : ℤ) (x : Point) (b : Bounds) (a : ℕ) (row : ArcRow) → BoxFits p b → Contains K b x → slice_get p.arcs a ≡ Some row → IsBetween K x.d (x.flow a) (ends_of b (Flow a))
flow_at p K x b a row f w at = w (Flow a) (in_box p b (Flow a) f (let l = slice_get_within p.arcs a row at in let t : nat_lt a (length p.arcs) ≡ true = grind (arith, nat_tests) in t))

square_at : (p : Network) (K : ℤ) (x : Point) (b : Bounds) (n : ℕ) → BoxFits p b → Contains K b x → n < length p.nodes → IsBetween K x.d (x.square n) (ends_of b (Square n))
square_at p K x b n f w l = w (Square n) (in_box p b (Square n) f (let t : nat_lt n (length p.nodes) ≡ true = grind (arith, nat_tests) in t))

arc_within : (p : Network) (K : ℤ) (x : Point) (b : Bounds) (a : ℕ) (row : ArcRow) → IsWithin p → BoxFits p b → Contains K b x → slice_get p.arcs a ≡ Some row → ArcWithin K x.d (x.flow a) (x.square row.from) (x.square row.to) (arc_ends b a row)
arc_within p K x b a row n f w at = record {
  flow = flow_at p K x b a row f w at;
  from = square_at p K x b row.from f w (n.from a row at);
  to = square_at p K x b row.to f w (n.to a row at);
}

all_flows : (p : Network) (K : ℤ) (x : Point) (b : Bounds) → BoxFits p b → Contains K b x → Flows K x.d x.flow (flow_lo b) (flow_hi b) p.arcs
all_flows p K x b f w = record {
  above = record { at = λ j row e. (flow_at p K x b j row f w e).above };
  below = record { at = λ j row e. (flow_at p K x b j row f w e).below };
}

-- ---- the variable of an arc
-- a variable of the problem, whose value lies on the inner side of the end C
pub record Kept (p : Network) (K : ℤ) (x : Point) (v : Var) (low : Bool) (C : ℤ) : Type 0 where
  pub is_var : IsTrue (is_var p v)
  pub keeps : Keeps K x.d (numerator x v) low C

pub some_is : {A : Type 0} (o : Option A) (f : A → Bool) → IsTrue (option_map_or f o false) → (y : A) × (o ≡ Some y) × IsTrue (f y)
some_is None f h = absurd (cc)
some_is (Some y) f h = (y, refl, h)

flow_var : (t : Bool) (y : ArcVar) → cond t (Some OfFlow) None ≡ Some y → IsTrue t × (OfFlow ≡ y)
flow_var true y h = (refl, cc)
flow_var false y h = absurd cc

square_var : (t s : Bool) (y : ArcVar) → cond t (Some OfFrom) (cond s (Some OfTo) None) ≡ Some y → (IsTrue t × (OfFrom ≡ y)) ⊎ (IsTrue s × (OfTo ≡ y))
square_var true s y h = inl (refl, cc)
square_var false true y h = inr (refl, cc)
square_var false false y h = absurd cc

same_place : (i a : ℕ) → IsTrue (i == a) → i ≡ a
same_place i a t = grind (arith, nat_tests)

var_kept : (p : Network) (K : ℤ) (x : Point) (a : ℕ) (row : ArcRow) (v : Var) (y : ArcVar) (low : Bool) (C : ℤ) → IsWithin p → slice_get p.arcs a ≡ Some row → arc_var a row v ≡ Some y → Keeps K x.d (value_of y (x.flow a) (x.square row.from) (x.square row.to)) low C → Kept p K x v low C
var_kept p K x a row (Flow i) y low C n at is h =
    let f = flow_var (i == a) y is in
    let same = same_place i a f.0 in
    let l = slice_get_within p.arcs a row at in
    let here : Keeps K x.d (x.flow a) low C = subst (λ (z : ArcVar). Keeps K x.d (value_of z (x.flow a) (x.square row.from) (x.square row.to)) low C) (sym f.1) h in
    record {
      is_var = let t : nat_lt i (length p.arcs) ≡ true = grind (arith, nat_tests) in t;
      keeps = subst (λ (j : ℕ). Keeps K x.d (x.flow j) low C) (sym same) here;
    }
var_kept p K x a row (Square m) y low C n at is h =
    elim (square_var (m == row.from) (m == row.to) y is) [
      | inl f ↦
          let same = same_place m row.from f.0 in
          let l = n.from a row at in
          let here : Keeps K x.d (x.square row.from) low C = subst (λ (z : ArcVar). Keeps K x.d (value_of z (x.flow a) (x.square row.from) (x.square row.to)) low C) (sym f.1) h in
          record {
            is_var = let t : nat_lt m (length p.nodes) ≡ true = grind (arith, nat_tests) in t;
            keeps = subst (λ (j : ℕ). Keeps K x.d (x.square j) low C) (sym same) here;
          }
      | inr f ↦
          let same = same_place m row.to f.0 in
          let l = n.to a row at in
          let here : Keeps K x.d (x.square row.to) low C = subst (λ (z : ArcVar). Keeps K x.d (value_of z (x.flow a) (x.square row.from) (x.square row.to)) low C) (sym f.1) h in
          record {
            is_var = let t : nat_lt m (length p.nodes) ≡ true = grind (arith, nat_tests) in t;
            keeps = subst (λ (j : ℕ). Keeps K x.d (x.square j) low C) (sym same) here;
          }
    ]

-- ---- a point in a box
pub record Stands (p : Network) (b : PartBox) (picks : List ℕ) (states : List ArcState) (x : Point) : Type 0 where
  pub within : IsWithin p
  pub box : IsBoxOf p b
  pub is_in : IsIn p b picks states x

scale_pos : (K : ℤ) → pos 1 ≤ℤ K → pos 0 <ℤ K
scale_pos K h = omega (arith, linear)

-- the law of an arc in its fixed state
pub map_is : {A B : Type 0} (f : A → B) (o : Option A) (y : B) → option_map f o ≡ Some y → (z : A) × (o ≡ Some z) × (f z ≡ y)
map_is f None y e = absurd cc
map_is f (Some z) y e = (z, refl, cc)

record Fixed (p : Network) (x : Point) (a : ℕ) (row : ArcRow) (form : LawForm) : Type 0 where
  is_form : IsForm form
  meets : IsTrue (meets_form form x.d (x.flow a) (x.square row.from) (x.square row.to))

fixed_law : (p : Network) (b : PartBox) (picks : List ℕ) (states : List ArcState) (x : Point) (a : ℕ) (row : ArcRow) (form : LawForm) → Stands p b picks states x → slice_get p.arcs a ≡ Some row → fixed_form p b.part a row ≡ Some form → Fixed p x a row form
fixed_law p b picks states x a row form s at e =
    let found = map_is (form_of row.kind) (fixed_state p b.part a row) form e in
    let state = found.0 in
    let is = fixed_is p b.part picks states a row state s.is_in.listed s.is_in.agrees at found.1 in
    let here : state_at states a ≡ state = get_or_from_slice_get states a state Opened is in
    let law : IsTrue (meets_arc row state x.d (x.flow a) x.square) = subst (λ (z : ArcState). IsTrue (meets_arc row z x.d (x.flow a) x.square)) here (s.is_in.meets.laws a row at) in
    subst (λ (f : LawForm). Fixed p x a row f) found.2 (record { is_form = row_form p a row state s.within at; meets = law })

-- ---- steps
law_kept : (p : Network) (b : PartBox) (picks : List ℕ) (states : List ArcState) (x : Point) (rule : Rule) (a : ℕ) (v : Var) (low : Bool) (C : ℤ) → Stands p b picks states x → IsTrue (law_step p b rule a v low C) → Kept p b.scale x v low C
law_kept p b picks states x rule a v low C s t =
    let found = some_is (slice_get p.arcs a) (row_step p b rule a v low C) t in
    let row = found.0 in
    let fixed = some_is (fixed_form p b.part a row) (form_step rule b.scale (arc_ends b.bounds a row) (arc_var a row v) low C) found.2 in
    let form = fixed.0 in
    let var = some_is (arc_var a row v) (λ y. arc_step rule form b.scale (arc_ends b.bounds a row) y low C) fixed.2 in
    let law = fixed_law p b picks states x a row form s found.1 fixed.1 in
    let keeps = arc_step_keeps rule form b.scale x.d (x.flow a) (x.square row.from) (x.square row.to) (arc_ends b.bounds a row) var.0 low C law.is_form (scale_pos b.scale s.box.scale) (scale_pos x.d x.positive) law.meets (arc_within p b.scale x b.bounds a row s.within s.box.fits s.is_in.inside found.1) var.2 in
    var_kept p b.scale x a row v var.0 low C s.within found.1 var.1 keeps

one_of : (t s p q : Bool) → IsTrue (cond t p (cond s q false)) → (IsTrue t × IsTrue p) ⊎ (IsTrue s × IsTrue q)
one_of true s p q h = inl (refl, h)
one_of false true p q h = inr (refl, h)
one_of false false p q h = absurd (cc)

node_kept : (p : Network) (b : PartBox) (picks : List ℕ) (states : List ArcState) (x : Point) (n : ℕ) (v : Var) (low : Bool) (C : ℤ) → Stands p b picks states x → IsTrue (balance_step p b n v low C) → Kept p b.scale x v low C
node_kept p b picks states x n (Square m) low C s t =
    let found = some_is (slice_get p.nodes n) (node_step p b n (Square m) low C) t in
    absurd (let f : false ≡ true = found.2 in cc)
node_kept p b picks states x n (Flow a) low C s t =
    let found = some_is (slice_get p.nodes n) (node_step p b n (Flow a) low C) t in
    let node = found.0 in
    let arc = some_is (slice_get p.arcs a) (flow_step p b n a low C node) found.2 in
    let row = arc.0 in
    let l = slice_get_within p.arcs a row arc.1 in
    let is : nat_lt a (length p.arcs) ≡ true = grind (arith, nat_tests) in
    let k = scale_pos b.scale s.box.scale in
    let d = scale_pos x.d x.positive in
    let flows = all_flows p b.scale x b.bounds s.box.fits s.is_in.inside in
    let balances = s.is_in.meets.balances n node found.1 in
    elim (one_of (row.from == n) (row.to == n) (leaving_step node b.scale (flow_lo b.bounds) (flow_hi b.bounds) n p.arcs a low C) (entering_step node b.scale (flow_lo b.bounds) (flow_hi b.bounds) n p.arcs a low C) arc.2) [
      | inl leaves ↦ record { is_var = is; keeps = leaving_keeps node b.scale x.d x.flow (flow_lo b.bounds) (flow_hi b.bounds) n p.arcs a row low C k d flows balances arc.1 (same_place row.from n leaves.0) leaves.1 }
      | inr enters ↦ record { is_var = is; keeps = entering_keeps node b.scale x.d x.flow (flow_lo b.bounds) (flow_hi b.bounds) n p.arcs a row low C k d flows balances arc.1 (same_place row.to n enters.0) enters.1 }
    ]

rule_kept : (p : Network) (b : PartBox) (picks : List ℕ) (states : List ArcState) (x : Point) (rule : Rule) (place : ℕ) (v : Var) (low : Bool) (C : ℤ) → Stands p b picks states x → IsTrue (rule_holds p b rule place v low C) → Kept p b.scale x v low C
rule_kept p b picks states x Balance place v low C s t = node_kept p b picks states x place v low C s t
rule_kept p b picks states x rule place v low C s t = law_kept p b picks states x rule place v low C s t

pub end_moved : (p : Network) (b : PartBox) (picks : List ℕ) (states : List ArcState) (x : Point) (v : Var) (low : Bool) (C : ℤ) → Stands p b picks states x → Kept p b.scale x v low C → Contains b.scale (tightened b.bounds v low C) x
end_moved p b picks states x v low C s k =
    changed b.scale x b.bounds v (with_end low C (ends_of b.bounds v)) s.is_in.inside
    (kept_end b.scale x.d (numerator x v) low C (ends_of b.bounds v) (s.is_in.inside v (in_box p b.bounds v s.box.fits k.is_var)) k.keeps)

-- the condition of a rule alone
pub rule_keeps : (p : Network) (b : PartBox) (s : Step) (picks : List ℕ) (states : List ArcState) (x : Point) → IsTrue (rule_holds p b s.rule s.place s.var s.low s.value) → Stands p b picks states x
    → IsTrue (is_var p s.var) × Stands p (stepped b s) picks states x
rule_keeps p b s picks states x t h =
    let kept = rule_kept p b picks states x s.rule s.place s.var s.low s.value h t in (
      kept.is_var,
      record {
        within = h.within;
        box = record { scale = h.box.scale; fits = still_fits p b.bounds s.var (with_end s.low s.value (ends_of b.bounds s.var)) h.box.fits };
        is_in = record {
          listed = h.is_in.listed;
          agrees = h.is_in.agrees;
          inside = end_moved p b picks states x s.var s.low s.value h kept;
          meets = h.is_in.meets;
        };
      },
    )

pub step_keeps : (p : Network) (b : PartBox) (s : Step) (picks : List ℕ) (states : List ArcState) (x : Point) → IsTrue (step_holds p b s) → Stands p b picks states x → Stands p (stepped b s) picks states x
step_keeps p b s picks states x t h =
    let a = and_parts (is_var p s.var && is_allowed b.bounds s.rule s.var s.low s.value) (rule_holds p b s.rule s.place s.var s.low s.value) t in
    (rule_keeps p b s picks states x a.1 h).1

pub rules_keep_points : RulesKeepPoints
rules_keep_points p b s picks states x w o t h = let k = rule_keeps p b s picks states x t (record { within = w; box = o; is_in = h }) in (k.0, k.1.is_in)

pub steps_keep_points : StepsKeepPoints
steps_keep_points p b s picks states x w o t h = (step_keeps p b s picks states x t (record { within = w; box = o; is_in = h })).is_in

-- ---- closings
law_closed : (p : Network) (b : PartBox) (picks : List ℕ) (states : List ArcState) (x : Point) (rule : Rule) (a : ℕ) → Stands p b picks states x → IsTrue (option_map_or (row_closing p b rule a) (slice_get p.arcs a) false) → ⊥
law_closed p b picks states x rule a s t =
    let found = some_is (slice_get p.arcs a) (row_closing p b rule a) t in
    let row = found.0 in
    let fixed = some_is (fixed_form p b.part a row) (λ form. arc_closing rule form b.scale (arc_ends b.bounds a row)) found.2 in
    let law = fixed_law p b picks states x a row fixed.0 s found.1 fixed.1 in
    arc_closing_none rule fixed.0 b.scale x.d (x.flow a) (x.square row.from) (x.square row.to) (arc_ends b.bounds a row) law.is_form (scale_pos b.scale s.box.scale) (scale_pos x.d x.positive) law.meets (arc_within p b.scale x b.bounds a row s.within s.box.fits s.is_in.inside found.1) fixed.2

closed_at : (p : Network) (b : PartBox) (picks : List ℕ) (states : List ArcState) (x : Point) (rule : Rule) (place : ℕ) → Stands p b picks states x → IsTrue (closing_at p b rule place) → ⊥
closed_at p b picks states x Balance n s t =
    let found = some_is (slice_get p.nodes n) (λ node. balance_closing node b.scale (flow_lo b.bounds) (flow_hi b.bounds) n p.arcs) t in
    balance_closed found.0 b.scale x.d x.flow (flow_lo b.bounds) (flow_hi b.bounds) n p.arcs (scale_pos b.scale s.box.scale) (scale_pos x.d x.positive) (all_flows p b.scale x b.bounds s.box.fits s.is_in.inside) (s.is_in.meets.balances n found.0 found.1) found.2
closed_at p b picks states x rule a s t = law_closed p b picks states x rule a s t

empty_closed : (p : Network) (b : PartBox) (picks : List ℕ) (states : List ArcState) (x : Point) (v : Var) → Stands p b picks states x → IsTrue (is_var p v && is_empty (ends_of b.bounds v)) → ⊥
empty_closed p b picks states x v s t =
    let tests = and_parts (is_var p v) (is_empty (ends_of b.bounds v)) t in
    let between = s.is_in.inside v (in_box p b.bounds v s.box.fits tests.0) in
    let crossed = mul_lt_left x.d (ends_of b.bounds v).hi (ends_of b.bounds v).lo (scale_pos x.d x.positive) (omega (arith, linear, tests.1)) in
    omega (arith, linear, between.above, between.below)

-- a shut arc has no flow
shut_state : (o : Option ArcState) → IsTrue (is_shut o) → o ≡ Some Shut
shut_state None h = absurd cc
shut_state (Some Opened) h = absurd cc
shut_state (Some Shut) h = refl
shut_state (Some Active) h = absurd cc
shut_state (Some Bypass) h = absurd cc

shut_still : (kind : ArcKind) (d q u v : ℤ) → IsTrue (meets_form (form_of kind Shut) d q u v) → q ≡ pos 0
shut_still (Pipe law) d q u v h = absurd cc
shut_still Short d q u v h = absurd cc
shut_still (Resist law) d q u v h = absurd cc
shut_still (Loss low high) d q u v h = absurd cc
shut_still Valve d q u v h = eq_says q (pos 0) h
shut_still (Control in_min out_max red_min red_max) d q u v h = eq_says q (pos 0) h
shut_still (Station in_min out_max ratio_num ratio_den rise_max) d q u v h = eq_says q (pos 0) h

not_first : (a b : Bool) → IsTrue (not a || b) → IsTrue a → IsTrue b
not_first true b h t = h
not_first false b h t = absurd cc

cut_off : (p : Network) (b : PartBox) (picks : List ℕ) (states : List ArcState) (x : Point) (ns : List ℕ) → Stands p b picks states x → IsTrue (all_arcs (λ a row. not (crosses ns row) || is_shut (fixed_state p b.part a row)) 0 p.arcs) → IsCutOff x.flow ns p.arcs
cut_off p b picks states x ns s t = record {
  still = λ a row at c.
      let test = subst (λ (i : ℕ). IsTrue (not (crosses ns row) || is_shut (fixed_state p b.part i row))) (zero-add a) (each_arc (λ a row. not (crosses ns row) || is_shut (fixed_state p b.part a row)) 0 p.arcs t a row at) in
      let shut = shut_state (fixed_state p b.part a row) (not_first (crosses ns row) (is_shut (fixed_state p b.part a row)) test c) in
      let is = fixed_is p b.part picks states a row Shut s.is_in.listed s.is_in.agrees at shut in
      let here : state_at states a ≡ Shut = get_or_from_slice_get states a Shut Opened is in
      let law : IsTrue (meets_arc row Shut x.d (x.flow a) x.square) = subst (λ (z : ArcState). IsTrue (meets_arc row z x.d (x.flow a) x.square)) here (s.is_in.meets.laws a row at) in
      shut_still row.kind x.d (x.flow a) (x.square row.from) (x.square row.to) law;
}

cut_none : (p : Network) (b : PartBox) (picks : List ℕ) (states : List ArcState) (x : Point) (ns : List ℕ) → Stands p b picks states x → IsTrue (cuts p b.part ns) → ⊥
cut_none p b picks states x ns s t =
    let tests = and_parts (are_cut_nodes p.nodes ns && all_arcs (λ a row. not (crosses ns row) || is_shut (fixed_state p b.part a row)) 0 p.arcs) (is_unbalanced p.nodes ns) t in
    let more = and_parts (are_cut_nodes p.nodes ns) (all_arcs (λ a row. not (crosses ns row) || is_shut (fixed_state p b.part a row)) 0 p.arcs) tests.0 in
    cut_closed p.nodes x.d x.flow p.arcs ns (scale_pos x.d x.positive) (λ n node e. s.is_in.meets.balances n node e) (cut_off p b picks states x ns s more.1) more.0 tests.1

pub closing_none : (p : Network) (b : PartBox) (c : Closing) (picks : List ℕ) (states : List ArcState) (x : Point) → IsTrue (closing_holds p b c) → Stands p b picks states x → ⊥
closing_none p b (Empty v) picks states x t s = empty_closed p b picks states x v s t
closing_none p b (Cut ns) picks states x t s = cut_none p b picks states x ns s t
closing_none p b (At rule place) picks states x t s = closed_at p b picks states x rule place s t

pub closings_refute : ClosingsRefute
closings_refute p b c w o t picks states x h = closing_none p b c picks states x t (record { within = w; box = o; is_in = h })
