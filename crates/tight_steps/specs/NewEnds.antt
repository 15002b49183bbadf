-- The first end of a variable that has a best value, the lower one before the upper one.
use Rattle.std.specs.Prelude.{◌≡◌, ℤ, Bool, true, false, Option, MatchOption}
use Rattle.gas_model.specs.declared.rows.Ends.{Ends}
use Rattle.tight_steps.specs.declared.best.NewEnd.{NewEnd}
use Rattle.tight_steps.specs.Best.{IsBest, HasNoBest}

-- neither end has one, where the test tells for each end which values it allows
pub record HasNoEnd (e : Ends) (test : (low : Bool) → ℤ → Bool) : Type 0 where
  pub none : (low : Bool) → HasNoBest low e (test low)

pub record IsFirstEnd (e : Ends) (test : (low : Bool) → ℤ → Bool) (m : NewEnd) : Type 0 where
  pub best : IsBest m.low e (test m.low) m.value
  pub first : m.low ≡ false → HasNoBest true e (test true)

abbrev pub FirstEnd : Ends → ((low : Bool) → ℤ → Bool) → Option NewEnd → Type 0
FirstEnd e test result = MatchOption result (HasNoEnd e test) (IsFirstEnd e test)
