-- What is proved of cores.
use Rattle.std.specs.Prelude.{◌≡◌, ℕ, ℤ, List, [], Bool, IsTrue}
use Rattle.base_types.specs.declared.variables.Var.{Var}
use Rattle.gas_model.specs.Rows.{Network}
use Rattle.gas_model.specs.Points.{IsInfeasible}
use Rattle.gas_model.specs.Within.{IsWithin}
use Rattle.tree_cert.specs.declared.line.Closing.{Closing}
use Rattle.tree_cert.specs.declared.line.Line.{Line}
use Rattle.tree_cert.specs.declared.line.Rule.{Rule}
use Rattle.tree_cert.specs.Tree.{Tree, IsClosed}
use Rattle.tree_cert.specs.TreeRules.{Holds, Passes, IsTextOf}
use Rattle.tree_rules.specs.Rules.{PartBox, rule_holds, closing_holds}
use Rattle.tree_rules.specs.Branches.{root_of, rules_of}
use Rattle.tree_rules.specs.Theorems.{IsBoxOf, IsRefuted}
use Rattle.core_rules.specs.Reads.{Item, step_reads, closing_reads}
use Rattle.core_rules.specs.Cores.{tree_cites, AgreesOn, ReadsSame, Each, Alike, Carried}

-- the condition of a rule holds wherever it reads the same
abbrev pub StepsReadNoMore : Type 0
StepsReadNoMore =
    (p p2 : Network) (b b2 : PartBox) (rule : Rule) (place : ℕ) (v : Var) (low : Bool) (C : ℤ)
    → Alike p p2 b b2 → Each (ReadsSame p p2 b b2) (step_reads p rule place v low) → IsTrue (rule_holds p b rule place v low C) → IsTrue (rule_holds p2 b2 rule place v low C)

-- so does a closing
abbrev pub ClosingsReadNoMore : Type 0
ClosingsReadNoMore =
    (p p2 : Network) (b b2 : PartBox) (c : Closing)
    → Alike p p2 b b2 → Each (ReadsSame p p2 b b2) (closing_reads p b c) → IsTrue (closing_holds p b c) → IsTrue (closing_holds p2 b2 c)

-- a tree that passes at a box refutes each box that has what was set above and what is cited
abbrev pub CoresRefuteBoxes : Type 0
CoresRefuteBoxes =
    (p p2 : Network) (b b2 : PartBox) (set : List Item) (t : Tree)
    → IsWithin p2 → IsBoxOf p b → IsBoxOf p2 b2 → Passes (rules_of p) t b → IsClosed t
    → Carried p p2 (tree_cites p set b t) set b b2 → IsRefuted p2 b2

-- what the lines of a text cite, which are those of a tree that passes
abbrev pub Cites : Network → List Line → List Item → Type 0
Cites p ls core = (t : Tree) × (text : IsTextOf (rules_of p) ls t) × IsClosed t × Holds (root_of p text.first) (λ b. core ≡ tree_cites p [] b t)

-- each problem that agrees at what the lines cite is infeasible
abbrev pub CoresRefute : Type 0
CoresRefute = (p p2 : Network) (ls : List Line) (core : List Item) → IsWithin p2 → Cites p ls core → AgreesOn p core p2 → IsInfeasible p2
