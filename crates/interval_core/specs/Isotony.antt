-- Smaller operands give a smaller or equal result.
use Rattle.std.specs.Prelude.{ℤ, pos, ◌≤ℤ◌}
use Rattle.interval_core.specs.Enclosures.{Pair, IsInside, IsSum, IsDifference, IsNegative, IsProduct, IsMeet}
use Rattle.interval_core.specs.Squares.{IsSignedSquare}

-- over the grid of K: a lies inside a', and b inside b'
pub record AreIsotoneAt (K : ℤ) (a a' r r' : Pair) : Type 0 where
  pub sum : (b b' : Pair) → IsInside b b' → IsSum K a b r → IsSum K a' b' r' → IsInside r r'
  pub difference : (b b' : Pair) → IsInside b b' → IsDifference K a b r → IsDifference K a' b' r' → IsInside r r'
  pub negative : IsNegative K a r → IsNegative K a' r' → IsInside r r'
  pub product : (b b' : Pair) → IsInside b b' → IsProduct K a b r → IsProduct K a' b' r' → IsInside r r'
  pub meet : (b b' : Pair) → IsInside b b' → IsMeet K a b r → IsMeet K a' b' r' → IsInside r r'
  pub signed_square : (lo hi lo' hi' den : ℤ) → IsInside (lo, hi) (lo', hi') → IsSignedSquare K lo hi den a r → IsSignedSquare K lo' hi' den a' r' → IsInside r r'

abbrev pub AreIsotone : Type 0
AreIsotone = (K : ℤ) → pos 1 ≤ℤ K → (a a' r r' : Pair) → IsInside a a' → AreIsotoneAt K a a' r r'
