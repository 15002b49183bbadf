-- Paths of steps, between which boxes may be cut down otherwise, and how many of them are on a variable.
use Rattle.std.specs.Prelude.{ℕ, suc, ◌*◌, ◌^◌, ◌≤◌, pos, ◌≤ℤ◌, List, [], ◌∷◌, if◌then◌else◌}
use Rattle.base_types.specs.declared.variables.Var.{Var}
use Rattle.gas_model.specs.Rows.{Network}
use Rattle.gas_model.specs.Boxes.{Bounds, BoxFits, ends_of, width_of}
use Rattle.tree_cert.specs.declared.line.Step.{Step}
use Rattle.tree_rules.specs.Branches.{same_var}
use Rattle.tree_rules.specs.Rules.{PartBox, stepped}
use Rattle.stable_sweep.specs.Runs.{IsNarrowing}

-- no variable is wider in the box c than in the box b
abbrev pub IsNoWider : (b c : Bounds) → Type 0
IsNoWider b c = (v : Var) → width_of (ends_of c v) ≤ℤ width_of (ends_of b v)

-- Each step is allowed in the box beside it, and shrinks by an eighth a width that isn't negative. That box is no wider
-- than the one that the steps before leave.
abbrev pub ArePath : Network → PartBox → List (PartBox × Step) → Type 0
ArePath p b [] = Unit {0}
ArePath p b (x ∷ rest) = BoxFits p x.0.bounds × IsNoWider b.bounds x.0.bounds × IsNarrowing p x.0 x.1 × ArePath p (stepped x.0 x.1) rest

-- how many of the steps move an end of the variable
abbrev pub count_on : Var → List (PartBox × Step) → ℕ
count_on v [] = 0
count_on v (x ∷ rest) = if same_var x.1.var v then suc (count_on v rest) else count_on v rest

-- on each path a variable is tightened at most 320 times, where it is at most 16 * 10^16 wide at first
abbrev pub StepsAreFew : Type 0
StepsAreFew =
    (p : Network) (b : PartBox) (v : Var) (path : List (PartBox × Step))
    → width_of (ends_of b.bounds v) ≤ℤ pos (16 * 10 ^ 16) → ArePath p b path → count_on v path ≤ 320
