-- The quotient that rounds down, as products.
use Rattle.std.proofs.Common.{◌≡◌, arith, ℤ, pos, negsuc, ◌+ℤ◌, ◌*ℤ◌, ◌≤ℤ◌, ◌<ℤ◌}
use Rattle.std.proofs.lemmas.Int.{ints}
use Rattle.std.specs.Int.{int_div_euclid, int_rem_euclid}
use Rattle.integer_laws.proofs.Ring.{linear, add_mul, one_mul}
use Rattle.gas_units.specs.Rounds.{IsFloor, IsCeiling}

-- the quotient and the rest
pub record Divides (n d q r : ℤ) : Type 0 where
  pub whole : q *ℤ d +ℤ r ≡ n
  pub low : pos 0 ≤ℤ r
  pub high : r <ℤ d

pub euclid_divides : (n d : ℤ) → pos 1 ≤ℤ d → Divides n d (int_div_euclid n d) (int_rem_euclid n d)
euclid_divides (pos n) (pos d) h = record { whole = omega (arith, ints); low = omega (arith, ints); high = omega (arith, ints) }
euclid_divides (negsuc n) (pos d) h = record { whole = omega (arith, ints); low = omega (arith, ints); high = omega (arith, ints) }
euclid_divides n (negsuc d) h = absurd (omega (arith, ints))

pub floor_is : (n d q r : ℤ) → Divides n d q r → IsFloor n d q
floor_is n d q r h = omega (arith, linear)

pub ceiling_is : (n d q r : ℤ) → Divides n d q r → r ≡ pos 0 → IsCeiling n d q
ceiling_is n d q r h e = omega (arith, linear)

pub ceiling_is_next : (n d q r : ℤ) → Divides n d q r → (r ≡ pos 0 → ⊥) → IsCeiling n d (q +ℤ pos 1)
ceiling_is_next n d q r h e = omega (arith, linear, add_mul q (pos 1) d, one_mul d)

-- what the code computes, through its calls' equations
pub divides_by : (n d q r : ℤ) → pos 1 ≤ℤ d → q ≡ int_div_euclid n d → r ≡ int_rem_euclid n d → Divides n d q r
divides_by n d q r h e k = rw (e, k) (euclid_divides n d h)
