-- Runs of steps, each in the box that those before it leave.
use Rattle.std.specs.Prelude.{◌≡◌, ◌≤ℤ◌, List, [], ◌∷◌, ◌++◌}
use Rattle.gas_model.specs.Rows.{Network}
use Rattle.gas_model.specs.Boxes.{ends_of}
use Rattle.tree_cert.specs.declared.line.Step.{Step}
use Rattle.tree_rules.specs.Rules.{PartBox, stepped}
use Rattle.tree_rules.specs.Looser.{IsTightest}
use Rattle.tight_steps.specs.Moves.{IsMove}

-- the box after steps
abbrev pub after : PartBox → List Step → PartBox
after b [] = b
after b (s ∷ ss) = after (stepped b s) ss

-- an allowed step that shrinks by an eighth a width that isn't negative
pub record IsNarrowing (p : Network) (b : PartBox) (s : Step) : Type 0 where
  pub filled : (ends_of b.bounds s.var).lo ≤ℤ (ends_of b.bounds s.var).hi
  pub move : IsMove p b s

-- such a step, with the tightest value of its rule
pub record IsTurn (p : Network) (b : PartBox) (s : Step) : Type 0 where
  pub filled : (ends_of b.bounds s.var).lo ≤ℤ (ends_of b.bounds s.var).hi
  pub move : IsMove p b s
  pub tightest : IsTightest p b s

abbrev pub AreTurns : Network → PartBox → List Step → Type 0
AreTurns p b [] = Unit {0}
AreTurns p b (s ∷ ss) = IsTurn p b s × AreTurns p (stepped b s) ss

-- the new list has more such steps, which lead from the box b to the box c
pub record Extends (p : Network) (b c : PartBox) (out more : List Step) : Type 0 where
  pub added : List Step
  pub list : more ≡ out ++ added
  pub turns : AreTurns p b added
  pub box : c ≡ after b added
