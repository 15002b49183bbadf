-- What is proved of trimmed texts.
use Rattle.std.specs.Prelude.{ℕ, ℤ, List, Bool, IsTrue}
use Rattle.base_types.specs.declared.variables.Var.{Var}
use Rattle.gas_model.specs.Rows.{Network}
use Rattle.gas_model.specs.Within.{IsWithin}
use Rattle.tree_cert.specs.declared.line.Closing.{Closing}
use Rattle.tree_cert.specs.declared.line.Rule.{Rule}
use Rattle.tree_cert.specs.Texts.{PassesWholeText}
use Rattle.tree_rules.specs.Rules.{PartBox, rule_holds, closing_holds}
use Rattle.tree_rules.specs.Branches.{rules_of}
use Rattle.trim_rules.specs.Trimming.{IsTrimOf, HasSomeLinesOf, NeedsEachStep}
use Rattle.trim_rules.specs.Tighter.{IsTighter}

-- the condition of a rule that holds in a box holds in each tighter one
abbrev pub RulesTighten : Type 0
RulesTighten =
    (p : Network) (b inner : PartBox) (rule : Rule) (place : ℕ) (v : Var) (low : Bool) (C : ℤ)
    → IsWithin p → IsTighter p b inner → IsTrue (rule_holds p b rule place v low C) → IsTrue (rule_holds p inner rule place v low C)

-- so does a closing
abbrev pub ClosingsTighten : Type 0
ClosingsTighten =
    (p : Network) (b inner : PartBox) (c : Closing)
    → IsWithin p → IsTighter p b inner → IsTrue (closing_holds p b c) → IsTrue (closing_holds p inner c)

-- the lines that are kept of a text that passes pass, and are some of its lines
abbrev pub TrimmedTextsPass : Type 0
TrimmedTextsPass = (p : Network) (text trimmed : List ℕ) → PassesWholeText (rules_of p) text → IsTrimOf (rules_of p) text trimmed → PassesWholeText (rules_of p) trimmed × HasSomeLinesOf text trimmed

-- and none of their steps can go
abbrev pub TrimmedTextsNeedTheirSteps : Type 0
TrimmedTextsNeedTheirSteps = (p : Network) (text trimmed : List ℕ) → IsWithin p → PassesWholeText (rules_of p) text → IsTrimOf (rules_of p) text trimmed → NeedsEachStep (rules_of p) trimmed
