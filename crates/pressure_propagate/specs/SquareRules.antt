-- The rules that move squares, and those that close boxes, by the form of a law.
use Rattle.std.specs.Prelude.{◌≡◌, ℕ, ◌<◌, not, IsTrue, ℤ, pos, ◌*ℤ◌, ◌≤ℤ◌, Bool, true, false, List, [], ◌∷◌}
use Rattle.gas_model.specs.Curves.{square, at_most, at_least}
use Rattle.gas_model.specs.declared.law_forms.LawForm.{LawForm}
use Rattle.gas_model.specs.declared.law_forms.LawForm.TheVariants.{Drags, Equals, Loses, Reduces, Raises}
use Rattle.gas_model.specs.Rows.{Network}
use Rattle.gas_units.specs.Rounds.{IsFloor, IsCeiling}
use Rattle.tree_cert.specs.declared.line.Rule.{Rule}
use Rattle.tree_cert.specs.declared.line.Rule.TheVariants.{Pipe, Equal, Inner, Fall, Order, Rise, Ratio, Reach, Along, Drop}
use Rattle.tree_cert.specs.declared.line.Closing.{Closing}
use Rattle.tree_cert.specs.declared.line.Closing.TheVariants.{At}
use Rattle.tree_rules.specs.declared.arc_vars.ArcEnds.{ArcEnds}
use Rattle.tree_rules.specs.declared.arc_vars.ArcVar.{ArcVar}
use Rattle.tree_rules.specs.declared.arc_vars.ArcVar.TheVariants.{OfFrom, OfTo}
use Rattle.tree_rules.specs.ArcRules.{arc_closing}
use Rattle.tree_rules.specs.Rules.{PartBox, closing_holds}
use Rattle.tight_steps.specs.Best.{IsBest, HasNoBest, CanShrink, IsBound}
use Rattle.tight_steps.specs.Moves.{allows, ends_at, is_balance, rule_number}
use Rattle.pressure_propagate.specs.declared.ends.RuleEnd.{RuleEnd}
use Rattle.pressure_propagate.specs.declared.ends.RuleValue.{RuleValue}

-- the rules by which the law of an arc moves squares, in order
abbrev pub square_rules : LawForm → List Rule
square_rules (Drags law) = Pipe ∷ []
square_rules Equals = Equal ∷ []
square_rules (Loses low high) = Reach ∷ Along ∷ Drop ∷ []
square_rules (Reduces in_min out_max red_min red_max) = Inner ∷ Fall ∷ []
square_rules (Raises in_min out_max ratio_num ratio_den rise_max) = Inner ∷ Order ∷ Rise ∷ Ratio ∷ []
square_rules form = []

-- the rules by which it closes boxes, in order
abbrev pub closing_rules : LawForm → List Rule
closing_rules (Drags law) = Pipe ∷ []
closing_rules (Loses low high) = Reach ∷ Drop ∷ []
closing_rules (Reduces in_min out_max red_min red_max) = Fall ∷ []
closing_rules (Raises in_min out_max ratio_num ratio_den rise_max) = Rise ∷ Ratio ∷ []
closing_rules form = []

-- the square at the `from` of an arc, or at its `to`
abbrev pub square_at : (from : Bool) → ArcVar
square_at true = OfFrom
square_at false = OfTo

-- the lower or the upper end of the square at the other end of the arc
abbrev pub opposite : ArcEnds → (from : Bool) → (low : Bool) → ℤ
opposite e true true = e.v.lo
opposite e true false = e.v.hi
opposite e false true = e.u.lo
opposite e false false = e.u.hi

-- an end of a square may become C where the squares lie within D of each other; and where this one is at least D below
-- or above the other
abbrev pub in_reach : (K other D : ℤ) → (low : Bool) → (C : ℤ) → Bool
in_reach K other D true C = at_least K other C D
in_reach K other D false C = at_least K C other D

abbrev pub apart : (K other D : ℤ) → (low : Bool) → (C : ℤ) → Bool
apart K other D true C = at_most K C other D
apart K other D false C = at_most K other C D

-- where the rule moves this end of a square by an eighth of its width, it may go up to the bound
abbrev pub BoundsSquare : LawForm → ℤ → ArcEnds → (from low : Bool) → Rule → (bound : ℤ) → Type 0
BoundsSquare form K e from low rule bound =
    CanShrink low (ends_at e (square_at from)) (allows rule form K e (square_at from) low) → IsBound low (ends_at e (square_at from)) (allows rule form K e (square_at from) low) bound

-- the square at an end of an active arc that its least pressure before it, or its greatest one after it, allows
abbrev pub inner_bound : (in_min out_max K : ℤ) → (from : Bool) → ℤ
inner_bound in_min out_max K true = K *ℤ square in_min
inner_bound in_min out_max K false = K *ℤ square out_max

-- the quotient by the squares of a ratio, rounded down for a lower end and up for an upper one
pub record IsRatioBound (num den other : ℤ) (low : Bool) (bound : ℤ) : Type 0 where
  pub upper : pos 1 ≤ℤ square num
  pub lower : pos 1 ≤ℤ square den
  pub floor : low ≡ true → IsFloor (square den *ℤ other) (square num) bound
  pub ceiling : low ≡ false → IsCeiling (square num *ℤ other) (square den) bound

-- no rule has a best value at this end of a square, or this is the first that has one
pub record HasNoRule (form : LawForm) (K : ℤ) (e : ArcEnds) (x : ArcVar) (low : Bool) : Type 0 where
  pub none : (rule : Rule) → HasNoBest low (ends_at e x) (allows rule form K e x low)

pub record IsFirstRule (form : LawForm) (K : ℤ) (e : ArcEnds) (x : ArcVar) (low : Bool) (m : RuleValue) : Type 0 where
  pub best : IsBest low (ends_at e x) (allows m.rule form K e x low) m.value
  pub first : (rule : Rule) → rule_number rule < rule_number m.rule → HasNoBest low (ends_at e x) (allows rule form K e x low)

-- neither end of a square has such a rule, or this is the first that has one, the lower one before the upper one
pub record HasNoRuleEnd (form : LawForm) (K : ℤ) (e : ArcEnds) (x : ArcVar) : Type 0 where
  pub none : (low : Bool) → HasNoRule form K e x low

pub record IsFirstRuleEnd (form : LawForm) (K : ℤ) (e : ArcEnds) (x : ArcVar) (m : RuleEnd) : Type 0 where
  pub best : IsFirstRule form K e x m.low (record { rule = m.rule; value = m.value })
  pub first : m.low ≡ false → HasNoRule form K e x true

-- no rule leaves no point between the ends, or this is the first that does
pub record HasNoClosing (form : LawForm) (K : ℤ) (e : ArcEnds) : Type 0 where
  pub none : (rule : Rule) → IsTrue (arc_closing rule form K e) → ⊥

pub record IsFirstClosing (form : LawForm) (K : ℤ) (e : ArcEnds) (rule : Rule) : Type 0 where
  pub holds : IsTrue (arc_closing rule form K e)
  pub first : (other : Rule) → rule_number other < rule_number rule → IsTrue (arc_closing other form K e) → ⊥

-- no closing of the arc a holds in the box, or this is the first that does
pub record ArcClosesNothing (p : Network) (b : PartBox) (a : ℕ) : Type 0 where
  pub none : (rule : Rule) → IsTrue (not (is_balance rule)) → IsTrue (closing_holds p b (At rule a)) → ⊥

pub record IsFirstAtArc (p : Network) (b : PartBox) (a : ℕ) (closing : Closing) : Type 0 where
  pub rule : Rule
  pub is : closing ≡ At rule a
  pub of_arc : IsTrue (not (is_balance rule))
  pub holds : IsTrue (closing_holds p b (At rule a))
  pub first : (other : Rule) → IsTrue (not (is_balance other)) → rule_number other < rule_number rule → IsTrue (closing_holds p b (At other a)) → ⊥
