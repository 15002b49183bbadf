-- A value that the law of an arc allows: each looser one is allowed too, and formulas take it.
use Rattle.std.proofs.Common.{◌≡◌, refl, sym, ◌∙◌, ap, arith, ℤ, pos, ◌*ℤ◌, ◌≤ℤ◌, ◌<ℤ◌, ◌^◌, ◌&&◌, Bool, true, false, IsTrue, inl, inr}
use Rattle.std.specs.Bool.{MatchBool}
use Rattle.std.proofs.lemmas.Bool.{and_parts, and_from}
use Rattle.integer_laws.proofs.Ring.{linear}
use Rattle.integer_laws.proofs.SizeLemmas.{within_parts, one_part}
use Rattle.gas_model.specs.declared.rows.Drag.{Drag}
use Rattle.gas_model.specs.declared.rows.Ends.{Ends}
use Rattle.base_types.specs.declared.variables.Var.TheVariants.{Flow, Square}
use Rattle.gas_model.specs.BoxLimits.{IsScale, AreFlowEnds, AreSquareEnds}
use Rattle.gas_model.specs.Boxes.{may_become, with_end}
use Rattle.gas_model.specs.declared.law_forms.LawForm.{LawForm}
use Rattle.gas_model.specs.declared.law_forms.LawForm.TheVariants.{Drags, Equals, Shuts, Loses, Reduces, Raises, Never}
use Rattle.gas_model.specs.Limits.{is_drag_within}
use Rattle.base_types.specs.Numbers.{is_ratio_part}
use Rattle.box_ends.proofs.HeldEnds.{end_moved}
use Rattle.element_laws.specs.Sizes.{AreSafeFlows}
use Rattle.element_laws.proofs.BoxEnds.{safe_flows, safe_squares}
use Rattle.tree_cert.specs.declared.line.Rule.{Rule}
use Rattle.tree_cert.specs.declared.line.Rule.TheVariants.{Fall, Rise, Reach, Drop}
use Rattle.tree_rules.specs.declared.arc_vars.ArcEnds.{ArcEnds}
use Rattle.tree_rules.specs.declared.arc_vars.ArcVar.{ArcVar}
use Rattle.tree_rules.specs.declared.arc_vars.ArcVar.TheVariants.{OfFlow, OfFrom, OfTo}
use Rattle.tree_rules.specs.ArcRules.{arc_step, keeps_sign}
use Rattle.tree_rules.specs.Looser.{IsNoTighter}
use Rattle.tree_rules.proofs.Loosening.{arc_looser}
use Rattle.tree_rules.proofs.UnitSound.{IsForm, IsDrag}
use Rattle.box_rules.specs.ArcLimits.{IsFormWithin, AreSafeSides, AreBoxSides, IsSafeAt}
use Rattle.tight_steps.specs.Best.{IsLoosest, HasNoBest, CanShrink, AreSmallEnds}
use Rattle.tight_steps.specs.Moves.{allows, ends_at}
use Rattle.tight_steps.proofs.Bests.{within_low, none_from}

-- ---- the numbers of a law
pub drag_is : (law : Drag) → IsTrue (is_drag_within law) → IsDrag law
drag_is law t = record { lo = grind (arith, linear); hi = grind (arith, linear); den = grind (arith, linear) }

part_from : (x : ℤ) → IsTrue (is_ratio_part x) → pos 1 ≤ℤ x
part_from x t = grind (arith, linear)

pub form_is : (form : LawForm) → IsFormWithin form → IsForm form
form_is (Drags law) t = drag_is law.drag t
form_is (Raises a b num den r) t = record { upper = part_from num t.1.0; lower = part_from den t.1.1 }
form_is Equals t = tt
form_is Shuts t = tt
form_is (Loses l h) t = tt
form_is (Reduces a b l h) t = tt
form_is Never t = tt

pub scale_one : (K : ℤ) → IsScale K → pos 1 ≤ℤ K
scale_one K (inl e) = omega (arith, linear)
scale_one K (inr e) = omega (arith, linear)

-- ---- the sign of a rule
natural : (rule : Rule) (C : ℤ) → pos 0 ≤ℤ C → IsTrue (keeps_sign rule C)
natural Fall C h = omega (arith, linear)
natural Rise C h = omega (arith, linear)
natural Reach C h = omega (arith, linear)
natural Drop C h = omega (arith, linear)
natural rule C h = refl

above_sign : (rule : Rule) (B D : ℤ) → D ≤ℤ B → IsTrue (keeps_sign rule D) → IsTrue (keeps_sign rule B)
above_sign Fall B D h t = omega (arith, linear)
above_sign Rise B D h t = omega (arith, linear)
above_sign Reach B D h t = omega (arith, linear)
above_sign Drop B D h t = omega (arith, linear)
above_sign rule B D h t = refl

-- no rule that keeps a sign gives a flow
flow_sign : (rule : Rule) (form : LawForm) (K : ℤ) (e : ArcEnds) (low : Bool) (D B : ℤ) → IsTrue (arc_step rule form K e OfFlow low D) → IsTrue (keeps_sign rule B)
flow_sign Fall (Reduces a b m M) K e low D B t = absurd cc
flow_sign Rise (Raises a b n d M) K e low D B t = absurd cc
flow_sign Reach (Loses m M) K e low D B t = absurd cc
flow_sign Drop (Loses m M) K e low D B t = absurd cc
flow_sign Fall form K e low D B t = absurd cc
flow_sign Rise form K e low D B t = absurd cc
flow_sign Reach form K e low D B t = absurd cc
flow_sign Drop form K e low D B t = absurd cc
flow_sign rule form K e low D B t = refl

-- squares are at least 0
square_sign : (rule : Rule) (low : Bool) (K B D : ℤ) (own : Ends) → AreSquareEnds K own → IsTrue (may_become low B own) → IsNoTighter low B D → IsTrue (keeps_sign rule D) → IsTrue (keeps_sign rule B)
square_sign rule true K B D own l w h t = natural rule B (omega (arith, linear, l.low_from, (within_low own B w).0))
square_sign rule false K B D own l w h t = above_sign rule B D h t

-- the ends of an arc's variables in a box
pub record AreLimitedEnds (K : ℤ) (e : ArcEnds) : Type 0 where
  pub q : AreFlowEnds K e.q
  pub u : AreSquareEnds K e.u
  pub v : AreSquareEnds K e.v

sign_loosens : (rule : Rule) (form : LawForm) (K : ℤ) (e : ArcEnds) (x : ArcVar) (low : Bool) (B D : ℤ) → AreLimitedEnds K e → IsTrue (may_become low B (ends_at e x)) → IsNoTighter low B D → IsTrue (keeps_sign rule D) → IsTrue (arc_step rule form K e x low D) → IsTrue (keeps_sign rule B)
sign_loosens rule form K e OfFlow low B D l w h s t = flow_sign rule form K e low D B t
sign_loosens rule form K e OfFrom low B D l w h s t = square_sign rule low K B D e.u l.u w h s
sign_loosens rule form K e OfTo low B D l w h s t = square_sign rule low K B D e.v l.v w h s

pub allows_loosen : (rule : Rule) (form : LawForm) (K : ℤ) (e : ArcEnds) (x : ArcVar) (low : Bool) → IsFormWithin form → IsScale K → AreLimitedEnds K e
    → (B D : ℤ) → IsTrue (may_become low B (ends_at e x)) → IsNoTighter low B D → IsTrue (allows rule form K e x low D) → IsTrue (allows rule form K e x low B)
allows_loosen rule form K e x low f k l B D w h t =
    let s = and_parts (keeps_sign rule D) (arc_step rule form K e x low D) t in
    and_from (keeps_sign rule B) (arc_step rule form K e x low B) (sign_loosens rule form K e x low B D l w h s.0 s.1)
    (arc_looser rule form K e x low B D (form_is form f) (omega (arith, linear, scale_one K k)) h s.1)

-- the loosest value tells
pub decided : (t low : Bool) (e : Ends) (test : ℤ → Bool) (C : ℤ) → t ≡ test C → IsLoosest low e C
    → ((B D : ℤ) → IsTrue (may_become low B e) → IsNoTighter low B D → IsTrue (test D) → IsTrue (test B)) → MatchBool t (CanShrink low e test) (HasNoBest low e test)
decided true low e test C s l looser = record { value = C; loosest = l; allowed = sym s }
decided false low e test C s l looser = none_from low e test C l (λ h. let x : false ≡ true = s ∙ h in absurd cc) looser

-- ---- sizes
pub safe_sides : (K : ℤ) (e : ArcEnds) → AreBoxSides K e → AreSafeSides e
safe_sides K e h = record { q = safe_flows K e.q h.scale h.q; u = safe_squares K e.u h.scale h.u; v = safe_squares K e.v h.scale h.v }

pub limited_sides : (K : ℤ) (e : ArcEnds) → AreBoxSides K e → AreLimitedEnds K e
limited_sides K e h = record { q = h.q; u = h.u; v = h.v }

flow_moved : (K : ℤ) (e : Ends) (low : Bool) (C : ℤ) → AreFlowEnds K e → IsTrue (may_become low C e) → AreFlowEnds K (with_end low C e)
flow_moved K e low C l t = end_moved K (Flow 0) low C e l t

square_moved : (K : ℤ) (e : Ends) (low : Bool) (C : ℤ) → AreSquareEnds K e → IsTrue (may_become low C e) → AreSquareEnds K (with_end low C e)
square_moved K e low C l t = end_moved K (Square 0) low C e l t

pub safe_value : (K : ℤ) (e : ArcEnds) (x : ArcVar) (low : Bool) (C : ℤ) → AreBoxSides K e → IsTrue (may_become low C (ends_at e x)) → IsSafeAt x C
safe_value K e OfFlow true C h t = (safe_flows K (with_end true C e.q) h.scale (flow_moved K e.q true C h.q t)).lo
safe_value K e OfFlow false C h t = (safe_flows K (with_end false C e.q) h.scale (flow_moved K e.q false C h.q t)).hi
safe_value K e OfFrom true C h t = (safe_squares K (with_end true C e.u) h.scale (square_moved K e.u true C h.u t)).lo
safe_value K e OfFrom false C h t = (safe_squares K (with_end false C e.u) h.scale (square_moved K e.u false C h.u t)).hi
safe_value K e OfTo true C h t = (safe_squares K (with_end true C e.v) h.scale (square_moved K e.v true C h.v t)).lo
safe_value K e OfTo false C h t = (safe_squares K (with_end false C e.v) h.scale (square_moved K e.v false C h.v t)).hi

flows_small : (e : Ends) → AreSafeFlows e → AreSmallEnds e
flows_small e h = record { lo = omega (arith, h.lo); hi = omega (arith, h.hi) }

most_square : (K : ℤ) → IsScale K → (K *ℤ pos (10 ^ 16)) ≤ℤ pos (2 ^ 59)
most_square K (inl k) = let e : K *ℤ pos (10 ^ 16) ≡ pos 1 *ℤ pos (10 ^ 16) = ap (λ (z : ℤ). z *ℤ pos (10 ^ 16)) k in omega (arith, linear, e)
most_square K (inr k) = let e : K *ℤ pos (10 ^ 16) ≡ pos 16 *ℤ pos (10 ^ 16) = ap (λ (z : ℤ). z *ℤ pos (10 ^ 16)) k in omega (arith, linear, e)

squares_small : (K : ℤ) (e : Ends) → IsScale K → AreSquareEnds K e → AreSmallEnds e
squares_small K e k h = record {
  lo = omega (arith, linear, most_square K k, h.low_from, h.low_to, within_parts, one_part e.lo);
  hi = omega (arith, linear, most_square K k, h.high_from, h.high_to, within_parts, one_part e.hi);
}

pub own_small : (K : ℤ) (e : ArcEnds) (x : ArcVar) → AreBoxSides K e → AreSmallEnds (ends_at e x)
own_small K e OfFlow h = flows_small e.q (safe_flows K e.q h.scale h.q)
own_small K e OfFrom h = squares_small K e.u h.scale h.u
own_small K e OfTo h = squares_small K e.v h.scale h.v
