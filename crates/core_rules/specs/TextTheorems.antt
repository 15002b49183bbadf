-- What is proved of the texts of cores.
use Rattle.std.specs.Prelude.{ℕ, List}
use Rattle.gas_model.specs.Rows.{Network}
use Rattle.gas_model.specs.Points.{IsInfeasible}
use Rattle.gas_model.specs.Within.{IsWithin}
use Rattle.core_rules.specs.CoreTexts.{IsCoreOf, Agrees}

-- each problem that agrees at what the core of a text lists is infeasible
abbrev pub CoreTextsRefute : Type 0
CoreTextsRefute = (p p2 : Network) (text core : List ℕ) → IsWithin p2 → IsCoreOf p text core → Agrees p core p2 → IsInfeasible p2
