-- What a proposal comes to.
use Rattle.std.specs.Prelude.{ℕ}
use Rattle.gas_model.specs.Rows.{Network}
use Rattle.proposer.specs.Proposed.{IsProposed}
use Rattle.proposer.specs.declared.evaluate.Outcome.{Outcome}
use Rattle.proposer.specs.declared.evaluate.Outcome.TheVariants as outcome

-- a setting, where there is one, fits the problem and carries it within the tolerance
abbrev pub IsOutcome : Network → ℕ → Outcome → Type 0
IsOutcome p tol (outcome.Near setting) = IsProposed p tol setting
IsOutcome p tol (outcome.Far far) = Unit {0}
