-- The first end that has a best value.
use Rattle.std.proofs.Common.{◌≡◌, sym, ◌∙◌, ℤ, Bool, true, false}
use Rattle.gas_model.specs.declared.rows.Ends.{Ends}
use Rattle.tight_steps.specs.Best.{IsBest, HasNoBest}
use Rattle.tight_steps.specs.NewEnds.{HasNoEnd, IsFirstEnd}

pub first_low : (e : Ends) (test : Bool → ℤ → Bool) (C : ℤ) → IsBest true e (test true) C → IsFirstEnd e test (record { low = true; value = C })
first_low e test C b = record { best = b; first = λ t. absurd cc }

pub first_high : (e : Ends) (test : Bool → ℤ → Bool) (C : ℤ) → HasNoBest true e (test true) → IsBest false e (test false) C → IsFirstEnd e test (record { low = false; value = C })
first_high e test C n b = record { best = b; first = λ t. n }

pub first_none : (e : Ends) (test : Bool → ℤ → Bool) → HasNoBest true e (test true) → HasNoBest false e (test false) → HasNoEnd e test
first_none e test n m = record { none = λ low. by low }
  where
    by : (low : Bool) → HasNoBest low e (test low)
    by true = n
    by false = m

-- tests that tell the same
pub best_same : (low : Bool) (e : Ends) (s t : ℤ → Bool) (C : ℤ) → ((z : ℤ) → s z ≡ t z) → IsBest low e s C → IsBest low e t C
best_same low e s t C h b = record {
  within = b.within;
  allowed = sym (h C) ∙ b.allowed;
  shrinks = b.shrinks;
  tightest = λ z w k. b.tightest z w (h z ∙ k);
}

pub none_same : (low : Bool) (e : Ends) (s t : ℤ → Bool) → ((z : ℤ) → s z ≡ t z) → HasNoBest low e s → HasNoBest low e t
none_same low e s t h n = record { none = λ z w k g. n.none z w (h z ∙ k) g }
