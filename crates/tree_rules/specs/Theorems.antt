-- What is proved of the rules and of all trees.
use Rattle.std.specs.Prelude.{◌≡◌, ◌↔◌, ℕ, pos, ◌≤ℤ◌, List, Some, slice_get, IsTrue}
use Rattle.base_types.specs.declared.states.ArcState.{ArcState}
use Rattle.gas_model.specs.declared.rows.PartState.{PartState}
use Rattle.gas_model.specs.Rows.{Network}
use Rattle.gas_model.specs.Choices.{IsListed}
use Rattle.gas_model.specs.Points.{Point, Meets, IsInfeasible}
use Rattle.gas_model.specs.Boxes.{BoxFits, is_var, Contains}
use Rattle.gas_model.specs.Within.{IsWithin}
use Rattle.tree_cert.specs.declared.line.Step.{Step}
use Rattle.tree_cert.specs.declared.line.Closing.{Closing}
use Rattle.tree_cert.specs.declared.line.Head.{Head}
use Rattle.tree_cert.specs.declared.line.Line.{Line}
use Rattle.tree_cert.specs.Tree.{Tree, IsClosed}
use Rattle.tree_cert.specs.TreeRules.{Passes, PassesWhole}
use Rattle.tree_rules.specs.Rules.{PartBox, rule_holds, step_holds, stepped, closing_holds}
use Rattle.tree_rules.specs.Branches.{same_head, rules_of}

-- the choices have all picks and states of the part state
pub record Agrees (part : PartState) (picks : List ℕ) (states : List ArcState) : Type 0 where
  pub picked : (k j : ℕ) → slice_get part.picks k ≡ Some (Some j) → slice_get picks k ≡ Some j
  pub fixed : (a : ℕ) (state : ArcState) → slice_get part.states a ≡ Some (Some state) → slice_get states a ≡ Some state

-- the box has all variables of the problem, in units of 1 / scale, of which at least one makes a whole
pub record IsBoxOf (p : Network) (b : PartBox) : Type 0 where
  pub scale : pos 1 ≤ℤ b.scale
  pub fits : BoxFits p b.bounds

-- the choices are listed and agree with the part state, and the point lies in the box and meets the problem in their states
pub record IsIn (p : Network) (b : PartBox) (picks : List ℕ) (states : List ArcState) (x : Point) : Type 0 where
  pub listed : IsListed p picks states
  pub agrees : Agrees b.part picks states
  pub inside : Contains b.scale b.bounds x
  pub meets : Meets p states x

-- no choices and no point, over any denominator, are in the box
abbrev pub IsRefuted : Network → PartBox → Type 0
IsRefuted p b = (picks : List ℕ) (states : List ArcState) (x : Point) → IsIn p b picks states x → ⊥

-- an allowed step keeps every point
abbrev pub StepsKeepPoints : Type 0
StepsKeepPoints =
    (p : Network) (b : PartBox) (s : Step) (picks : List ℕ) (states : List ArcState) (x : Point)
    → IsWithin p → IsBoxOf p b → IsTrue (step_holds p b s) → IsIn p b picks states x → IsIn p (stepped b s) picks states x

-- The condition of a rule alone, whichever value it gives, names a variable of the problem and keeps every point.
abbrev pub RulesKeepPoints : Type 0
RulesKeepPoints =
    (p : Network) (b : PartBox) (s : Step) (picks : List ℕ) (states : List ArcState) (x : Point)
    → IsWithin p → IsBoxOf p b → IsTrue (rule_holds p b s.rule s.place s.var s.low s.value) → IsIn p b picks states x → IsTrue (is_var p s.var) × IsIn p (stepped b s) picks states x

-- a closing that holds leaves no point
abbrev pub ClosingsRefute : Type 0
ClosingsRefute = (p : Network) (b : PartBox) (c : Closing) → IsWithin p → IsBoxOf p b → IsTrue (closing_holds p b c) → IsRefuted p b

-- a tree that passes at a box, with no box left open, leaves no point in it
abbrev pub TreesRefuteBoxes : Type 0
TreesRefuteBoxes = (p : Network) (b : PartBox) (t : Tree) → IsWithin p → IsBoxOf p b → Passes (rules_of p) t b → IsClosed t → IsRefuted p b

-- Lines that are the text of a tree that passes, with no box left open, leave no listed choices, and no flows and squared
-- pressures over any denominator, that meet the problem with resistances in their intervals.
abbrev pub TextsRefute : Type 0
TextsRefute = (p : Network) (ls : List Line) → IsWithin p → PassesWhole (rules_of p) ls → IsInfeasible p

-- the test of the head that is expected passes that head and no other
abbrev pub HeadsAreToldApart : Type 0
HeadsAreToldApart = (h e : Head) → IsTrue (same_head h e) ↔ (h ≡ e)
