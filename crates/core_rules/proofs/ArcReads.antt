-- The condition of a rule of an arc holds wherever it reads the same.
use Rattle.std.proofs.Common.{◌≡◌, refl, sym, ap, ◌∙◌, ℤ, pos, Bool, true, false, IsTrue, List, [], ◌∷◌}
use Rattle.gas_model.specs.declared.rows.ArcKind.{ArcKind}
use Rattle.gas_model.specs.declared.rows.ArcKind.TheVariants.{Pipe as PipeKind, Short, Resist, Loss, Valve, Control, Station}
use Rattle.base_types.specs.declared.states.ArcState.{ArcState}
use Rattle.base_types.specs.declared.states.ArcState.TheVariants.{Opened, Shut, Active, Bypass}
use Rattle.gas_model.specs.declared.law_forms.PipeLaw.{PipeLaw}
use Rattle.gas_model.specs.Choices.{states_of}
use Rattle.gas_model.specs.Laws.{form_of, level}
use Rattle.gas_model.specs.declared.law_forms.LawForm.{LawForm}
use Rattle.gas_model.specs.declared.law_forms.LawForm.TheVariants.{Drags, Equals, Shuts, Loses, Reduces, Raises, Never}
use Rattle.tree_cert.specs.declared.line.Rule.{Rule}
use Rattle.tree_cert.specs.declared.line.Rule.TheVariants.{Pipe, Equal, Zero, Way, Inner, Fall, Order, Rise, Ratio, Sign, Reach, Along, Drop}
use Rattle.tree_rules.specs.declared.arc_vars.ArcEnds.{ArcEnds}
use Rattle.tree_rules.specs.declared.arc_vars.ArcVar.{ArcVar}
use Rattle.tree_rules.specs.declared.arc_vars.ArcVar.TheVariants.{OfFlow, OfFrom, OfTo}
use Rattle.tree_rules.specs.ArcRules.{pipe_step, equal_step, fall_step, order_step, rise_step, ratio_step, sign_step, reach_step, along_step, drop_step, arc_step}
use Rattle.core_rules.specs.Reads.{ArcEnd, reads_square, reads_both, arc_reads, reads_law}
use Rattle.core_rules.specs.Cores.{blank_kind, no_drag}

-- an end among those of an arc
abbrev pub arc_end : ArcEnds → ArcVar → (low : Bool) → ℤ
arc_end e OfFlow true = e.q.lo
arc_end e OfFlow false = e.q.hi
arc_end e OfFrom true = e.u.lo
arc_end e OfFrom false = e.u.hi
arc_end e OfTo true = e.v.lo
arc_end e OfTo false = e.v.hi

-- these ends are the same
abbrev pub EndsSame : ArcEnds → ArcEnds → List ArcEnd → Type 0
EndsSame e e2 [] = Unit {0}
EndsSame e e2 (y ∷ ys) = (arc_end e y.of y.low ≡ arc_end e2 y.of y.low) × EndsSame e e2 ys

pipe_same : (law : PipeLaw) (K : ℤ) (e e2 : ArcEnds) (x : ArcVar) (low : Bool) (C : ℤ) → EndsSame e e2 (reads_both x low) → IsTrue (pipe_step law K e x low C) → IsTrue (pipe_step law K e2 x low C)
pipe_same law K e e2 OfFlow true C h t = let f = h.0 in let g = h.1.0 in cc
pipe_same law K e e2 OfFlow false C h t = let f = h.0 in let g = h.1.0 in cc
pipe_same law K e e2 OfFrom true C h t = let f = h.0 in let g = h.1.0 in cc
pipe_same law K e e2 OfFrom false C h t = let f = h.0 in let g = h.1.0 in cc
pipe_same law K e e2 OfTo true C h t = let f = h.0 in let g = h.1.0 in cc
pipe_same law K e e2 OfTo false C h t = let f = h.0 in let g = h.1.0 in cc

sign_same : (m K : ℤ) (e e2 : ArcEnds) (x : ArcVar) (low : Bool) (C : ℤ) → EndsSame e e2 (reads_both x low) → IsTrue (sign_step m K e x low C) → IsTrue (sign_step m K e2 x low C)
sign_same m K e e2 OfFlow true C h t = let f = h.0 in let g = h.1.0 in cc
sign_same m K e e2 OfFlow false C h t = let f = h.0 in let g = h.1.0 in cc
sign_same m K e e2 OfFrom true C h t = absurd cc
sign_same m K e e2 OfFrom false C h t = absurd cc
sign_same m K e e2 OfTo true C h t = absurd cc
sign_same m K e e2 OfTo false C h t = absurd cc

along_same : (e e2 : ArcEnds) (x : ArcVar) (low : Bool) (C : ℤ) → EndsSame e e2 (reads_both x low) → IsTrue (along_step e x low C) → IsTrue (along_step e2 x low C)
along_same e e2 OfFlow true C h t = absurd cc
along_same e e2 OfFlow false C h t = absurd cc
along_same e e2 OfFrom true C h t = let f = h.0 in let g = h.1.0 in cc
along_same e e2 OfFrom false C h t = let f = h.0 in let g = h.1.0 in cc
along_same e e2 OfTo true C h t = let f = h.0 in let g = h.1.0 in cc
along_same e e2 OfTo false C h t = let f = h.0 in let g = h.1.0 in cc

drop_same : (m K : ℤ) (e e2 : ArcEnds) (x : ArcVar) (low : Bool) (C : ℤ) → EndsSame e e2 (reads_both x low) → IsTrue (drop_step m K e x low C) → IsTrue (drop_step m K e2 x low C)
drop_same m K e e2 OfFlow true C h t = absurd cc
drop_same m K e e2 OfFlow false C h t = absurd cc
drop_same m K e e2 OfFrom true C h t = let f = h.0 in let g = h.1.0 in cc
drop_same m K e e2 OfFrom false C h t = let f = h.0 in let g = h.1.0 in cc
drop_same m K e e2 OfTo true C h t = let f = h.0 in let g = h.1.0 in cc
drop_same m K e e2 OfTo false C h t = let f = h.0 in let g = h.1.0 in cc

equal_same : (e e2 : ArcEnds) (x : ArcVar) (low : Bool) (C : ℤ) → EndsSame e e2 (reads_square x low) → IsTrue (equal_step e x low C) → IsTrue (equal_step e2 x low C)
equal_same e e2 OfFlow low C h t = absurd cc
equal_same e e2 OfFrom true C h t = let f = h.0 in cc
equal_same e e2 OfFrom false C h t = let f = h.0 in cc
equal_same e e2 OfTo true C h t = let f = h.0 in cc
equal_same e e2 OfTo false C h t = let f = h.0 in cc

fall_same : (m M K : ℤ) (e e2 : ArcEnds) (x : ArcVar) (low : Bool) (C : ℤ) → EndsSame e e2 (reads_square x low) → IsTrue (fall_step m M K e x low C) → IsTrue (fall_step m M K e2 x low C)
fall_same m M K e e2 OfFlow low C h t = absurd cc
fall_same m M K e e2 OfFrom true C h t = let f = h.0 in cc
fall_same m M K e e2 OfFrom false C h t = let f = h.0 in cc
fall_same m M K e e2 OfTo true C h t = let f = h.0 in cc
fall_same m M K e e2 OfTo false C h t = let f = h.0 in cc

order_same : (e e2 : ArcEnds) (x : ArcVar) (low : Bool) (C : ℤ) → EndsSame e e2 (reads_square x low) → IsTrue (order_step e x low C) → IsTrue (order_step e2 x low C)
order_same e e2 OfFlow low C h t = absurd cc
order_same e e2 OfFrom true C h t = absurd cc
order_same e e2 OfFrom false C h t = let f = h.0 in cc
order_same e e2 OfTo true C h t = let f = h.0 in cc
order_same e e2 OfTo false C h t = absurd cc

rise_same : (M K : ℤ) (e e2 : ArcEnds) (x : ArcVar) (low : Bool) (C : ℤ) → EndsSame e e2 (reads_square x low) → IsTrue (rise_step M K e x low C) → IsTrue (rise_step M K e2 x low C)
rise_same M K e e2 OfFlow low C h t = absurd cc
rise_same M K e e2 OfFrom true C h t = let f = h.0 in cc
rise_same M K e e2 OfFrom false C h t = absurd cc
rise_same M K e e2 OfTo true C h t = absurd cc
rise_same M K e e2 OfTo false C h t = let f = h.0 in cc

ratio_same : (num den : ℤ) (e e2 : ArcEnds) (x : ArcVar) (low : Bool) (C : ℤ) → EndsSame e e2 (reads_square x low) → IsTrue (ratio_step num den e x low C) → IsTrue (ratio_step num den e2 x low C)
ratio_same num den e e2 OfFlow low C h t = absurd cc
ratio_same num den e e2 OfFrom true C h t = let f = h.0 in cc
ratio_same num den e e2 OfFrom false C h t = absurd cc
ratio_same num den e e2 OfTo true C h t = absurd cc
ratio_same num den e e2 OfTo false C h t = let f = h.0 in cc

reach_same : (M K : ℤ) (e e2 : ArcEnds) (x : ArcVar) (low : Bool) (C : ℤ) → EndsSame e e2 (reads_square x low) → IsTrue (reach_step M K e x low C) → IsTrue (reach_step M K e2 x low C)
reach_same M K e e2 OfFlow low C h t = absurd cc
reach_same M K e e2 OfFrom true C h t = let f = h.0 in cc
reach_same M K e e2 OfFrom false C h t = let f = h.0 in cc
reach_same M K e e2 OfTo true C h t = let f = h.0 in cc
reach_same M K e e2 OfTo false C h t = let f = h.0 in cc

-- all rules, by the same law
pub arc_same : (rule : Rule) (form : LawForm) (K : ℤ) (e e2 : ArcEnds) (x : ArcVar) (low : Bool) (C : ℤ) → EndsSame e e2 (arc_reads rule x low) → IsTrue (arc_step rule form K e x low C) → IsTrue (arc_step rule form K e2 x low C)
arc_same Pipe (Drags law) K e e2 x low C h t = pipe_same law K e e2 x low C h t
arc_same Equal Equals K e e2 x low C h t = equal_same e e2 x low C h t
arc_same Zero Shuts K e e2 x low C h t = t
arc_same Way (Reduces in_min out_max m M) K e e2 x low C h t = t
arc_same Way (Raises in_min out_max num den M) K e e2 x low C h t = t
arc_same Inner (Reduces in_min out_max m M) K e e2 x low C h t = t
arc_same Inner (Raises in_min out_max num den M) K e e2 x low C h t = t
arc_same Fall (Reduces in_min out_max m M) K e e2 x low C h t = fall_same m M K e e2 x low C h t
arc_same Order (Raises in_min out_max num den M) K e e2 x low C h t = order_same e e2 x low C h t
arc_same Rise (Raises in_min out_max num den M) K e e2 x low C h t = rise_same M K e e2 x low C h t
arc_same Ratio (Raises in_min out_max num den M) K e e2 x low C h t = ratio_same num den e e2 x low C h t
arc_same Sign (Loses m M) K e e2 x low C h t = sign_same m K e e2 x low C h t
arc_same Reach (Loses m M) K e e2 x low C h t = reach_same M K e e2 x low C h t
arc_same Along (Loses m M) K e e2 x low C h t = along_same e e2 x low C h t
arc_same Drop (Loses m M) K e e2 x low C h t = drop_same m K e e2 x low C h t
arc_same rule form K e e2 x low C h t = absurd cc

-- ---- laws without their numbers
abbrev pub blank_form : LawForm → LawForm
blank_form (Drags law) = Drags (level no_drag)
blank_form Equals = Equals
blank_form Shuts = Shuts
blank_form (Loses m M) = Loses (pos 0) (pos 0)
blank_form (Reduces in_min out_max m M) = Reduces (pos 0) (pos 0) (pos 0) (pos 0)
blank_form (Raises in_min out_max num den M) = Raises (pos 0) (pos 0) (pos 0) (pos 0) (pos 0)
blank_form Never = Never

pub form_blank : (kind : ArcKind) (state : ArcState) → form_of (blank_kind kind) state ≡ blank_form (form_of kind state)
form_blank (PipeKind law) Opened = refl
form_blank (Resist law) Opened = refl
form_blank Short Opened = refl
form_blank (Loss low high) Opened = refl
form_blank Valve Opened = refl
form_blank Valve Shut = refl
form_blank (Control in_min out_max red_min red_max) Active = refl
form_blank (Control in_min out_max red_min red_max) Bypass = refl
form_blank (Control in_min out_max red_min red_max) Shut = refl
form_blank (Station in_min out_max ratio_num ratio_den rise_max) Active = refl
form_blank (Station in_min out_max ratio_num ratio_den rise_max) Bypass = refl
form_blank (Station in_min out_max ratio_num ratio_den rise_max) Shut = refl
form_blank kind state = refl

pub states_blank : (kind : ArcKind) → states_of (blank_kind kind) ≡ states_of kind
states_blank (PipeKind law) = refl
states_blank Short = refl
states_blank (Resist law) = refl
states_blank (Loss low high) = refl
states_blank Valve = refl
states_blank (Control in_min out_max red_min red_max) = refl
states_blank (Station in_min out_max ratio_num ratio_den rise_max) = refl

-- a rule that doesn't read the law's numbers
step_blank : (rule : Rule) (form : LawForm) (K : ℤ) (e : ArcEnds) (x : ArcVar) (low : Bool) (C : ℤ) → reads_law rule ≡ false → arc_step rule (blank_form form) K e x low C ≡ arc_step rule form K e x low C
step_blank Equal Equals K e x low C h = refl
step_blank Zero Shuts K e x low C h = refl
step_blank Way (Reduces in_min out_max m M) K e x low C h = refl
step_blank Way (Raises in_min out_max num den M) K e x low C h = refl
step_blank Order (Raises in_min out_max num den M) K e x low C h = refl
step_blank Along (Loses m M) K e x low C h = refl
step_blank rule form K e x low C h = cc

pub blank_same : (rule : Rule) (form form2 : LawForm) (K : ℤ) (e : ArcEnds) (x : ArcVar) (low : Bool) (C : ℤ) → reads_law rule ≡ false → blank_form form ≡ blank_form form2 → IsTrue (arc_step rule form K e x low C) → IsTrue (arc_step rule form2 K e x low C)
blank_same rule form form2 K e x low C r s t =
    sym (step_blank rule form2 K e x low C r) ∙ ap (λ (f : LawForm). arc_step rule f K e x low C) (sym s) ∙ step_blank rule form K e x low C r ∙ t
