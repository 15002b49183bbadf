-- A law without a closing, and one without a step that shrinks a width by an eighth; and such closings and steps.
use Rattle.std.specs.Prelude.{◌≡◌, ℕ, IsTrue}
use Rattle.gas_model.specs.Rows.{Network}
use Rattle.tree_cert.specs.declared.line.Rule.{Rule}
use Rattle.tree_cert.specs.declared.line.Step.{Step}
use Rattle.tree_cert.specs.declared.line.Closing.{Closing}
use Rattle.tree_cert.specs.declared.line.Closing.TheVariants.{At}
use Rattle.tree_rules.specs.Rules.{PartBox, closing_at}
use Rattle.tree_rules.specs.Looser.{IsTightest}
use Rattle.tight_steps.specs.declared.law.Law.{Law}
use Rattle.tight_steps.specs.Moves.{is_of_law, IsMove}

pub record ClosesNothing (p : Network) (b : PartBox) (law : Law) : Type 0 where
  pub none : (rule : Rule) (place : ℕ) → IsTrue (is_of_law law rule place) → IsTrue (closing_at p b rule place) → ⊥

-- a closing by a law, which holds
pub record ClosesAt (p : Network) (b : PartBox) (c : Closing) : Type 0 where
  pub rule : Rule
  pub place : ℕ
  pub is : c ≡ At rule place
  pub holds : IsTrue (closing_at p b rule place)

-- a step that shrinks a width by an eighth, with the tightest value of its rule
pub record IsTightMove (p : Network) (b : PartBox) (s : Step) : Type 0 where
  pub move : IsMove p b s
  pub tightest : IsTightest p b s

pub record HasNoStep (p : Network) (b : PartBox) (law : Law) : Type 0 where
  pub none : (s : Step) → IsTrue (is_of_law law s.rule s.place) → IsMove p b s → ⊥
