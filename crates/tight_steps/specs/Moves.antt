-- Steps that shrink a width by an eighth, the law that each belongs to, and the first step of a law.
use Rattle.std.specs.Prelude.{ℕ, ◌+◌, ◌*◌, ◌<◌, ◌==◌, ℤ, ◌&&◌, not, Bool, true, false, if◌then◌else◌, IsTrue}
use Rattle.gas_model.specs.declared.rows.ArcRow.{ArcRow}
use Rattle.gas_model.specs.declared.rows.Ends.{Ends}
use Rattle.gas_model.specs.declared.rows.PartState.{PartState}
use Rattle.base_types.specs.declared.variables.Var.{Var}
use Rattle.base_types.specs.declared.variables.Var.TheVariants.{Flow, Square}
use Rattle.gas_model.specs.Rows.{Network}
use Rattle.gas_model.specs.Boxes.{Bounds, ends_of}
use Rattle.gas_model.specs.declared.law_forms.LawForm.{LawForm}
use Rattle.tree_cert.specs.declared.line.Rule.{Rule}
use Rattle.tree_cert.specs.declared.line.Rule.TheVariants.{Balance, Pipe, Equal, Zero, Way, Inner, Fall, Order, Rise, Ratio, Sign, Reach, Along, Drop}
use Rattle.tree_cert.specs.declared.line.Step.{Step}
use Rattle.tree_rules.specs.declared.arc_vars.ArcEnds.{ArcEnds}
use Rattle.tree_rules.specs.declared.arc_vars.ArcVar.{ArcVar}
use Rattle.tree_rules.specs.declared.arc_vars.ArcVar.TheVariants.{OfFlow, OfFrom, OfTo}
use Rattle.tree_rules.specs.ArcRules.{arc_step, keeps_sign}
use Rattle.tree_rules.specs.Looser.{IsTightest}
use Rattle.tree_rules.specs.Rules.{PartBox, step_holds, closing_at}
use Rattle.tight_steps.specs.declared.law.Law.{Law}
use Rattle.tight_steps.specs.declared.law.Law.TheVariants.{AtNode, AtArc}
use Rattle.tight_steps.specs.Best.{shrinks}

abbrev pub is_balance : Rule → Bool
is_balance Balance = true
is_balance rule = false

-- a rule at a place belongs to this law: the balance to that of its node, each other rule to that of its arc
abbrev pub is_of_law : Law → Rule → (place : ℕ) → Bool
is_of_law (AtNode n) rule place = is_balance rule && (place == n)
is_of_law (AtArc a) rule place = not (is_balance rule) && (place == a)

-- the law is one of the problem
abbrev pub is_law : (nodes arcs : ℕ) → Law → Type 0
is_law nodes arcs (AtNode n) = n < nodes
is_law nodes arcs (AtArc a) = a < arcs

-- the ends of one of the variables of an arc
abbrev pub ends_at : ArcEnds → ArcVar → Ends
ends_at e OfFlow = e.q
ends_at e OfFrom = e.u
ends_at e OfTo = e.v

-- a rule of the law of an arc allows the value
abbrev pub allows : Rule → LawForm → ℤ → ArcEnds → ArcVar → (low : Bool) → ℤ → Bool
allows rule form K e x low C = keeps_sign rule C && arc_step rule form K e x low C

-- the box of a part state and bounds
abbrev pub part_box : ℤ → PartState → Bounds → PartBox
part_box K part b = record { scale = K; part = part; bounds = b }

-- an allowed step that shrinks the width of its variable by an eighth
pub record IsMove (p : Network) (b : PartBox) (s : Step) : Type 0 where
  pub holds : IsTrue (step_holds p b s)
  pub shrinks : IsTrue (shrinks s.low s.value (ends_of b.bounds s.var))

abbrev pub is_flow : Var → Bool
is_flow (Flow a) = true
is_flow (Square n) = false

abbrev pub is_square : Var → Bool
is_square (Flow a) = false
is_square (Square n) = true

-- the order of the rules
abbrev pub rule_number : Rule → ℕ
rule_number Balance = 0
rule_number Pipe = 1
rule_number Equal = 2
rule_number Zero = 3
rule_number Way = 4
rule_number Inner = 5
rule_number Fall = 6
rule_number Order = 7
rule_number Rise = 8
rule_number Ratio = 9
rule_number Sign = 10
rule_number Reach = 11
rule_number Along = 12
rule_number Drop = 13

-- the order of flows, and that of the squares at an arc: its `from` before its `to`
abbrev pub flow_number : Var → ℕ
flow_number (Flow a) = a
flow_number (Square n) = 0

abbrev pub square_number : ArcRow → Var → ℕ
square_number row (Flow a) = 0
square_number row (Square n) = if n == row.from then 0 else 1

-- The order of the steps of a law: by their variables, which are numbered, then the lower end before the upper one, then
-- by their rules.
abbrev pub turn_of : (number : Var → ℕ) → Step → ℕ
turn_of number s = 28 * number s.var + (if s.low then 0 else 14) + rule_number s.rule

-- no step of the law, on variables of this kind, shrinks its width by an eighth
pub record HasNoMove (p : Network) (b : PartBox) (law : Law) (kind : Var → Bool) : Type 0 where
  pub none : (s : Step) → IsTrue (is_of_law law s.rule s.place) → IsTrue (kind s.var) → IsMove p b s → ⊥

-- the first of these steps, with the tightest value of its rule
pub record IsFirstMove (p : Network) (b : PartBox) (law : Law) (kind : Var → Bool) (number : Var → ℕ) (s : Step) : Type 0 where
  pub of_law : IsTrue (is_of_law law s.rule s.place)
  pub of_kind : IsTrue (kind s.var)
  pub shrinks : IsTrue (shrinks s.low s.value (ends_of b.bounds s.var))
  pub tightest : IsTightest p b s
  pub first : (t : Step) → IsTrue (is_of_law law t.rule t.place) → IsTrue (kind t.var) → turn_of number t < turn_of number s → IsMove p b t → ⊥

-- the law closes nothing, and no step of it shrinks a width by an eighth
pub record IsQuiet (p : Network) (b : PartBox) (law : Law) : Type 0 where
  pub open_still : (rule : Rule) (place : ℕ) → IsTrue (is_of_law law rule place) → IsTrue (closing_at p b rule place) → ⊥
  pub no_move : (s : Step) → IsTrue (is_of_law law s.rule s.place) → IsMove p b s → ⊥
