-- The conditions of steps and closings by the law of one arc. Ends and values count units of 1/K.
use Rattle.std.specs.Prelude.{ℤ, pos, negsuc, ◌-ℤ◌, ◌*ℤ◌, Bool, true, false, not, ◌&&◌, ◌||◌, int_le, int_lt}
use Rattle.gas_model.specs.declared.law_forms.PipeLaw.{PipeLaw}
use Rattle.tree_rules.specs.declared.arc_vars.ArcEnds.{ArcEnds}
use Rattle.tree_rules.specs.declared.arc_vars.ArcVar.{ArcVar}
use Rattle.tree_rules.specs.declared.arc_vars.ArcVar.TheVariants.{OfFlow, OfFrom, OfTo}
use Rattle.gas_model.specs.Curves.{square, drop_low, drop_high, at_most, at_least}
use Rattle.gas_model.specs.declared.law_forms.LawForm.{LawForm}
use Rattle.gas_model.specs.declared.law_forms.LawForm.TheVariants.{Drags, Equals, Shuts, Loses, Reduces, Raises}
use Rattle.tree_cert.specs.declared.line.Rule.{Rule}
use Rattle.tree_cert.specs.declared.line.Rule.TheVariants.{Pipe, Equal, Zero, Way, Inner, Fall, Order, Rise, Ratio, Sign, Reach, Along, Drop}

-- A step gives the lower (`low`) or the upper end of a variable the value C. Each condition keeps every point that
-- meets the law: a lower end may become C where each such point is at least C, an upper end where it is at most C.

-- by the drop along a resistance
abbrev pub pipe_step : PipeLaw → ℤ → ArcEnds → ArcVar → (low : Bool) → (C : ℤ) → Bool
pipe_step law K e OfFlow true C = int_le (drop_high law.drag C) (law.drag.den *ℤ K *ℤ (e.u.lo -ℤ e.v.hi))
pipe_step law K e OfFlow false C = int_le (law.drag.den *ℤ K *ℤ (e.u.hi -ℤ e.v.lo)) (drop_low law.drag C)
pipe_step law K e OfFrom true C = int_le (law.drag.den *ℤ K *ℤ (C -ℤ e.v.lo)) (drop_low law.drag e.q.lo)
pipe_step law K e OfFrom false C = int_le (drop_high law.drag e.q.hi) (law.drag.den *ℤ K *ℤ (C -ℤ e.v.hi))
pipe_step law K e OfTo true C = int_le (drop_high law.drag e.q.hi) (law.drag.den *ℤ K *ℤ (e.u.lo -ℤ C))
pipe_step law K e OfTo false C = int_le (law.drag.den *ℤ K *ℤ (e.u.hi -ℤ C)) (drop_low law.drag e.q.lo)

-- by equal squares
abbrev pub equal_step : ArcEnds → ArcVar → (low : Bool) → (C : ℤ) → Bool
equal_step e OfFrom true C = int_le C e.v.lo
equal_step e OfFrom false C = int_le e.v.hi C
equal_step e OfTo true C = int_le C e.u.lo
equal_step e OfTo false C = int_le e.u.hi C
equal_step e OfFlow low C = false

-- by a flow of 0
abbrev pub zero_step : ArcVar → (low : Bool) → (C : ℤ) → Bool
zero_step OfFlow true C = int_le C (pos 0)
zero_step OfFlow false C = int_le (pos 0) C
zero_step x low C = false

-- by a flow that goes forward
abbrev pub way_step : ArcVar → (low : Bool) → (C : ℤ) → Bool
way_step OfFlow true C = int_le C (pos 0)
way_step x low C = false

-- by the least pressure before and the greatest pressure after an active arc
abbrev pub inner_step : (in_min out_max : ℤ) → ℤ → ArcVar → (low : Bool) → (C : ℤ) → Bool
inner_step in_min out_max K OfFrom true C = int_le C (K *ℤ square in_min)
inner_step in_min out_max K OfTo false C = int_le (K *ℤ square out_max) C
inner_step in_min out_max K x low C = false

-- by a pressure that falls by red_min to red_max Pa
abbrev pub fall_step : (red_min red_max : ℤ) → ℤ → ArcEnds → ArcVar → (low : Bool) → (C : ℤ) → Bool
fall_step red_min red_max K e OfFrom true C = at_most K C e.v.lo red_min
fall_step red_min red_max K e OfFrom false C = at_least K C e.v.hi red_max
fall_step red_min red_max K e OfTo true C = at_least K e.u.lo C red_max
fall_step red_min red_max K e OfTo false C = at_most K e.u.hi C red_min
fall_step red_min red_max K e OfFlow low C = false

-- by a pressure that doesn't fall
abbrev pub order_step : ArcEnds → ArcVar → (low : Bool) → (C : ℤ) → Bool
order_step e OfFrom false C = int_le e.v.hi C
order_step e OfTo true C = int_le C e.u.lo
order_step e x low C = false

-- by a pressure that rises by at most rise_max Pa
abbrev pub rise_step : (rise_max : ℤ) → ℤ → ArcEnds → ArcVar → (low : Bool) → (C : ℤ) → Bool
rise_step rise_max K e OfFrom true C = at_least K e.v.lo C rise_max
rise_step rise_max K e OfTo false C = at_least K C e.u.hi rise_max
rise_step rise_max K e x low C = false

-- by a pressure that rises at most to its num / den-fold
abbrev pub ratio_step : (num den : ℤ) → ArcEnds → ArcVar → (low : Bool) → (C : ℤ) → Bool
ratio_step num den e OfFrom true C = int_le (square num *ℤ C) (square den *ℤ e.v.lo)
ratio_step num den e OfTo false C = int_le (square num *ℤ e.u.hi) (square den *ℤ C)
ratio_step num den e x low C = false

-- by a constant loss that the squares allow one way alone
abbrev pub sign_step : (low_loss : ℤ) → ℤ → ArcEnds → ArcVar → (low : Bool) → (C : ℤ) → Bool
sign_step low_loss K e OfFlow true C = int_le C (pos 0) && not (at_least K e.v.hi e.u.lo low_loss)
sign_step low_loss K e OfFlow false C = int_le (pos 0) C && not (at_least K e.u.hi e.v.lo low_loss)
sign_step low_loss K e x low C = false

-- by the greatest loss of pressure, which holds both ways
abbrev pub reach_step : (high_loss : ℤ) → ℤ → ArcEnds → ArcVar → (low : Bool) → (C : ℤ) → Bool
reach_step high_loss K e OfFrom true C = at_least K e.v.lo C high_loss
reach_step high_loss K e OfFrom false C = at_least K C e.v.hi high_loss
reach_step high_loss K e OfTo true C = at_least K e.u.lo C high_loss
reach_step high_loss K e OfTo false C = at_least K C e.u.hi high_loss
reach_step high_loss K e OfFlow low C = false

-- by a pressure that doesn't rise along the flow, whose direction is known
abbrev pub along_step : ArcEnds → ArcVar → (low : Bool) → (C : ℤ) → Bool
along_step e OfFrom true C = int_le (pos 0) e.q.lo && int_le C e.v.lo
along_step e OfTo false C = int_le (pos 0) e.q.lo && int_le e.u.hi C
along_step e OfFrom false C = int_le e.q.hi (pos 0) && int_le e.v.hi C
along_step e OfTo true C = int_le e.q.hi (pos 0) && int_le C e.u.lo
along_step e OfFlow low C = false

-- By the least loss of pressure along the flow, which is at least a unit one way. This unit is one of the box,
-- whatever K is.
abbrev pub drop_step : (low_loss : ℤ) → ℤ → ArcEnds → ArcVar → (low : Bool) → (C : ℤ) → Bool
drop_step low_loss K e OfFrom true C = int_le (pos 1) e.q.lo && at_most K C e.v.lo low_loss
drop_step low_loss K e OfTo false C = int_le (pos 1) e.q.lo && at_most K e.u.hi C low_loss
drop_step low_loss K e OfFrom false C = int_le e.q.hi (negsuc 0) && at_most K e.v.hi C low_loss
drop_step low_loss K e OfTo true C = int_le e.q.hi (negsuc 0) && at_most K C e.u.lo low_loss
drop_step low_loss K e OfFlow low C = false

-- a rule of the law of an arc gives the end of its variable the value C
abbrev pub arc_step : Rule → LawForm → ℤ → ArcEnds → ArcVar → (low : Bool) → (C : ℤ) → Bool
arc_step Pipe (Drags law) K e x low C = pipe_step law K e x low C
arc_step Equal Equals K e x low C = equal_step e x low C
arc_step Zero Shuts K e x low C = zero_step x low C
arc_step Way (Reduces in_min out_max red_min red_max) K e x low C = way_step x low C
arc_step Way (Raises in_min out_max ratio_num ratio_den rise_max) K e x low C = way_step x low C
arc_step Inner (Reduces in_min out_max red_min red_max) K e x low C = inner_step in_min out_max K x low C
arc_step Inner (Raises in_min out_max ratio_num ratio_den rise_max) K e x low C = inner_step in_min out_max K x low C
arc_step Fall (Reduces in_min out_max red_min red_max) K e x low C = fall_step red_min red_max K e x low C
arc_step Order (Raises in_min out_max ratio_num ratio_den rise_max) K e x low C = order_step e x low C
arc_step Rise (Raises in_min out_max ratio_num ratio_den rise_max) K e x low C = rise_step rise_max K e x low C
arc_step Ratio (Raises in_min out_max ratio_num ratio_den rise_max) K e x low C = ratio_step ratio_num ratio_den e x low C
arc_step Sign (Loses low_loss high_loss) K e x low C = sign_step low_loss K e x low C
arc_step Reach (Loses low_loss high_loss) K e x low C = reach_step high_loss K e x low C
arc_step Along (Loses low_loss high_loss) K e x low C = along_step e x low C
arc_step Drop (Loses low_loss high_loss) K e x low C = drop_step low_loss K e x low C
arc_step rule form K e x low C = false

-- the rules whose values are never negative
abbrev pub keeps_sign : Rule → (C : ℤ) → Bool
keeps_sign Fall C = int_le (pos 0) C
keeps_sign Rise C = int_le (pos 0) C
keeps_sign Reach C = int_le (pos 0) C
keeps_sign Drop C = int_le (pos 0) C
keeps_sign rule C = true

-- No flow and no squares between the ends meet the law. A closing with two causes has a test for each.

-- the squares lie too near for the least flow, or too far apart for the greatest
abbrev pub drops_too_little : PipeLaw → ℤ → ArcEnds → Bool
drops_too_little law K e = int_lt (law.drag.den *ℤ K *ℤ (e.u.hi -ℤ e.v.lo)) (drop_low law.drag e.q.lo)

abbrev pub drops_too_much : PipeLaw → ℤ → ArcEnds → Bool
drops_too_much law K e = int_lt (drop_high law.drag e.q.hi) (law.drag.den *ℤ K *ℤ (e.u.lo -ℤ e.v.hi))

abbrev pub pipe_closing : PipeLaw → ℤ → ArcEnds → Bool
pipe_closing law K e = drops_too_little law K e || drops_too_much law K e

-- the pressure falls by less than red_min everywhere, or by more than red_max
abbrev pub falls_too_little : (red_min : ℤ) → ℤ → ArcEnds → Bool
falls_too_little red_min K e = not (at_least K e.u.hi e.v.lo red_min)

abbrev pub falls_too_much : (red_max : ℤ) → ℤ → ArcEnds → Bool
falls_too_much red_max K e = not (at_most K e.u.lo e.v.hi red_max)

abbrev pub fall_closing : (red_min red_max : ℤ) → ℤ → ArcEnds → Bool
fall_closing red_min red_max K e = falls_too_little red_min K e || falls_too_much red_max K e

abbrev pub rise_closing : (rise_max : ℤ) → ℤ → ArcEnds → Bool
rise_closing rise_max K e = not (at_most K e.v.lo e.u.hi rise_max)

abbrev pub ratio_closing : (num den : ℤ) → ArcEnds → Bool
ratio_closing num den e = int_lt (square num *ℤ e.u.hi) (square den *ℤ e.v.lo)

-- the pressure falls by more than the greatest loss from the arc's `from` to its `to`, or back
abbrev pub is_beyond_reach : (high_loss : ℤ) → ℤ → ArcEnds → Bool
is_beyond_reach high_loss K e = not (at_most K e.u.lo e.v.hi high_loss)

abbrev pub is_beyond_reach_back : (high_loss : ℤ) → ℤ → ArcEnds → Bool
is_beyond_reach_back high_loss K e = not (at_most K e.v.lo e.u.hi high_loss)

abbrev pub reach_closing : (high_loss : ℤ) → ℤ → ArcEnds → Bool
reach_closing high_loss K e = is_beyond_reach high_loss K e || is_beyond_reach_back high_loss K e

-- the flow goes forward, or back, and the pressure falls along it by less than the least loss
abbrev pub loses_too_little : (low_loss : ℤ) → ℤ → ArcEnds → Bool
loses_too_little low_loss K e = int_le (pos 1) e.q.lo && not (at_least K e.u.hi e.v.lo low_loss)

abbrev pub loses_too_little_back : (low_loss : ℤ) → ℤ → ArcEnds → Bool
loses_too_little_back low_loss K e = int_le e.q.hi (negsuc 0) && not (at_least K e.v.hi e.u.lo low_loss)

abbrev pub drop_closing : (low_loss : ℤ) → ℤ → ArcEnds → Bool
drop_closing low_loss K e = loses_too_little low_loss K e || loses_too_little_back low_loss K e

-- The law of an arc holds nowhere in the box, by a rule that closes boxes. No other rule does.
abbrev pub arc_closing : Rule → LawForm → ℤ → ArcEnds → Bool
arc_closing Pipe (Drags law) K e = pipe_closing law K e
arc_closing Fall (Reduces in_min out_max red_min red_max) K e = fall_closing red_min red_max K e
arc_closing Rise (Raises in_min out_max ratio_num ratio_den rise_max) K e = rise_closing rise_max K e
arc_closing Ratio (Raises in_min out_max ratio_num ratio_den rise_max) K e = ratio_closing ratio_num ratio_den e
arc_closing Reach (Loses low_loss high_loss) K e = reach_closing high_loss K e
arc_closing Drop (Loses low_loss high_loss) K e = drop_closing low_loss K e
arc_closing rule form K e = false
