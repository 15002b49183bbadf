-- What a text that passes says of the problem.
use Rattle.std.specs.Prelude.{ℕ, List}
use Rattle.gas_model.specs.Rows.{Network}
use Rattle.gas_model.specs.Points.{IsInfeasible}
use Rattle.tree_cert.specs.Texts.{PassesWholeText}
use Rattle.tree_rules.specs.Branches.{rules_of}

-- the text is that of a tree that passes and leaves no box open, and nothing meets the problem
pub record PassesIt (p : Network) (text : List ℕ) : Type 0 where
  pub passes : PassesWholeText (rules_of p) text
  pub infeasible : IsInfeasible p
