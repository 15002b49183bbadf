-- Values of a rule that are no tighter than one that it gives.
use Rattle.std.specs.Prelude.{ℕ, ℤ, pos, ◌≤ℤ◌, Bool, true, false, int_le, IsTrue}
use Rattle.base_types.specs.declared.variables.Var.{Var}
use Rattle.gas_model.specs.Rows.{Network}
use Rattle.gas_model.specs.Within.{IsWithin}
use Rattle.tree_cert.specs.declared.line.Rule.{Rule}
use Rattle.tree_cert.specs.declared.line.Step.{Step}
use Rattle.tree_rules.specs.Rules.{PartBox, rule_holds, is_allowed, step_holds}

-- the lower (`low`) or the upper end B is no tighter than C
abbrev pub IsNoTighter : (low : Bool) → (B C : ℤ) → Type 0
IsNoTighter true B C = B ≤ℤ C
IsNoTighter false B C = C ≤ℤ B

-- the same step with another value
abbrev pub with_value : Step → ℤ → Step
with_value s B = record { var = s.var; low = s.low; value = B; rule = s.rule; place = s.place }

-- the condition of a rule that holds for a value holds for each that is no tighter
abbrev pub RulesLoosen : Type 0
RulesLoosen =
    (p : Network) (b : PartBox) (rule : Rule) (place : ℕ) (var : Var) (low : Bool) (B C : ℤ)
    → IsWithin p → pos 1 ≤ℤ b.scale → IsNoTighter low B C → IsTrue (rule_holds p b rule place var low C) → IsTrue (rule_holds p b rule place var low B)

-- a step that is allowed is allowed with each value that may be given and is no tighter
abbrev pub StepsLoosen : Type 0
StepsLoosen =
    (p : Network) (b : PartBox) (s : Step) (B : ℤ)
    → IsWithin p → pos 1 ≤ℤ b.scale → IsTrue (is_allowed b.bounds s.rule s.var s.low B) → IsNoTighter s.low B s.value → IsTrue (step_holds p b s) → IsTrue (step_holds p b (with_value s B))

-- an allowed step with the tightest value: each value with which it is allowed is no tighter
pub record IsTightest (p : Network) (b : PartBox) (s : Step) : Type 0 where
  pub holds : IsTrue (step_holds p b s)
  pub tightest : (B : ℤ) → IsTrue (step_holds p b (with_value s B)) → IsNoTighter s.low B s.value

-- the values from the bound on that are looser, for the lower (`low`) or the upper end
abbrev pub reaches : (low : Bool) → (bound : ℤ) → ℤ → Bool
reaches true bound C = int_le C bound
reaches false bound C = int_le bound C
